use Rattle.std.proofs.Common.{◌≡◌, ◌++◌, map}
use Rattle.sp_core.specs.Tree.{tree}
use Rattle.sp_formulas.proofs.adding.push_each.Given as goal

abbrev pub invariant-loop-e : goal.invariant-loop-e
invariant-loop-e l = map tree l.out.items ≡ map tree l.fn.out.items ++ map tree l.yielded
