use Rattle.std.proofs.Common.{◌≡◌, take}
use Rattle.sp_order.proofs.order.wide.Given as goal

abbrev pub invariant-loop-pair : goal.invariant-loop-pair
invariant-loop-pair l = l.all.items ≡ take l.pair-index l.pairs
