use Rattle.std.proofs.Common.{◌≡◌, map, take}
use Rattle.sp_core.specs.Tree.{Not, tree}
use Rattle.sp_formulas.specs.Generated.{hypothesis_tree}
use Rattle.sp_generator.proofs.site.denials.Given as goal

abbrev pub invariant-loop-exception : goal.invariant-loop-exception
invariant-loop-exception l = map hypothesis_tree l.all.items ≡ map Not (map (λ e. tree e.1) (take l.exception-index l.exception-items))
