use Rattle.std.proofs.Common.{◌≡◌, take}
use Rattle.sp_tree.proofs.expr.+copy.Given as goal

abbrev pub invariant-copy_all-loop-part : goal.invariant-copy_all-loop-part
invariant-copy_all-loop-part l = l.all ≡ take l.part-index l.part-items
