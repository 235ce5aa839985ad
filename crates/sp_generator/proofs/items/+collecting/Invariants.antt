use Rattle.std.proofs.Common.{◌≡◌, ◌++◌, map, drop}
use Rattle.sp_formulas.specs.Generated.{hypothesis_tree}
use Rattle.sp_generator.specs.Collected.{item_as}
use Rattle.sp_generator.proofs.Insides.{insides}
use Rattle.sp_generator.proofs.items.+collecting.Given as goal

-- what is collected, and what is still to come, is all
abbrev pub invariant-collect_all-loop-effect : goal.invariant-collect_all-loop-effect
invariant-collect_all-loop-effect l =
    map item_as l.out.items ++ insides l.vars (map hypothesis_tree l.guards) (drop l.effect-index l.effects) ≡ map item_as l.initial.out.items ++ insides l.vars (map hypothesis_tree l.guards) l.effects
