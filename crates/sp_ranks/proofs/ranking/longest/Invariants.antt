use Rattle.std.proofs.Common.{◌≡◌, map}
use Rattle.sp_core.specs.Effects.{changes_in, effect_tree, effect_trees_of}
use Rattle.sp_ranks.specs.Heights.{heights_within}
use Rattle.sp_ranks.proofs.ranking.longest.Given as goal

abbrev pub invariant-loop-steps : goal.invariant-loop-steps
invariant-loop-steps l = l.heights.items ≡ heights_within (changes_in (effect_trees_of (map effect_tree l.fn.effects))) l.steps
