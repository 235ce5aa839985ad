use Rattle.std.proofs.Common.{◌≡◌, take, false}
use Rattle.sp_cycles.specs.Reaches as reaches
use Rattle.sp_cycles.proofs.order.is_known.Given as goal

abbrev pub invariant-loop-reach : goal.invariant-loop-reach
invariant-loop-reach l = reaches.is_known (take l.reach-index l.reaches) l.fn.h ≡ false
