use Rattle.std.proofs.Common.{◌≡◌, ◌++◌, map, take}
use Rattle.sp_core.specs.Tree.{tree}
use Rattle.sp_formulas.specs.Generated.{hypothesis_tree}
use Rattle.sp_generator.proofs.pairs.push_guards.Given as goal

abbrev pub invariant-loop-guard : goal.invariant-loop-guard
invariant-loop-guard l = map tree l.out.items ≡ map tree l.fn.out.items ++ map hypothesis_tree (take l.guard-index l.guards)
