use Rattle.std.proofs.Common.{◌≡◌, ◌++◌, ◌+◌, drop}
use Rattle.sp_formulas.specs.Formulas.{bound_from}
use Rattle.sp_formulas.proofs.variables.push_bound.Given as goal

abbrev pub invariant-loop-k : goal.invariant-loop-k
invariant-loop-k l = l.out.items ++ bound_from (l.from + l.k) (drop l.k l.bound) ≡ l.fn.out.items ++ bound_from l.from l.bound
