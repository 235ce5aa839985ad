use Rattle.std.proofs.Common.{◌≡◌, ◌++◌, map, take}
use Rattle.sp_core.specs.Tree.{tree}
use Rattle.sp_formulas.specs.Generated.{hypothesis_tree}
use Rattle.sp_generator.proofs.site.assuming.Given as goal

abbrev pub invariant-loop-condition : goal.invariant-loop-condition
invariant-loop-condition l = map hypothesis_tree l.all.items ≡ map hypothesis_tree l.hyps ++ map tree (take l.condition-index l.conditions)
