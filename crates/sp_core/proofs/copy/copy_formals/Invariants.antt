use Rattle.std.proofs.Common.{◌≡◌, take}
use Rattle.sp_core.proofs.copy.copy_formals.Given as goal

abbrev pub invariant-loop-formal : goal.invariant-loop-formal
invariant-loop-formal l = l.all.items ≡ take l.formal-index l.formal-items
