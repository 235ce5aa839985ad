use Rattle.std.proofs.Common.{◌≡◌, ◌++◌, map, take}
use Rattle.sp_core.specs.Effects.{changes_in, effect_tree, effect_trees_of}
use Rattle.sp_ranks.specs.Heights.{raised}
use Rattle.sp_ranks.proofs.heights.+raising.Given as goal

abbrev pub invariant-raise_all-loop-effect : goal.invariant-raise_all-loop-effect
invariant-raise_all-loop-effect l = l.out.items ≡ l.initial.out.items ++ raised l.heights (changes_in (effect_trees_of (map effect_tree (take l.effect-index l.effects))))
