use Rattle.std.proofs.Common.{◌≡◌, ◌++◌, take}
use Rattle.sp_formulas.proofs.variables.push_formals.Given as goal

abbrev pub invariant-loop-formal : goal.invariant-loop-formal
invariant-loop-formal l = l.out.items ≡ l.fn.out.items ++ take l.formal-index l.formals
