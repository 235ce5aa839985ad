use Rattle.std.proofs.Common.{◌≡◌, take, false}
use Rattle.sp_cycles.specs.Reaches as reaches
use Rattle.sp_cycles.proofs.order.is_told.Given as goal

abbrev pub invariant-loop-reach : goal.invariant-loop-reach
invariant-loop-reach l = reaches.is_told (take l.reach-index l.reaches) l.fn.h l.fn.g ≡ false
