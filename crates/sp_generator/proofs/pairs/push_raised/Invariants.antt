use Rattle.std.proofs.Common.{◌≡◌, ◌++◌, map, take}
use Rattle.sp_core.specs.Tree.{tree}
use Rattle.sp_generator.specs.Pairs.{raised_in}
use Rattle.sp_generator.proofs.pairs.push_raised.Given as goal

abbrev pub invariant-loop-e : goal.invariant-loop-e
invariant-loop-e l = map tree l.out.items ≡ map tree l.fn.out.items ++ map (raised_in l.pair) (map tree (take l.e-index l.conditions))
