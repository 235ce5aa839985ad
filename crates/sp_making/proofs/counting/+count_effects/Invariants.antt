use Rattle.std.proofs.Common.{map}
use Rattle.sp_core.specs.Effects.{effect_tree, effect_trees_of}
use Rattle.sp_making.proofs.Counts.{load, loads}
use Rattle.sp_making.proofs.counting.+count_effects.Given as goal

abbrev pub decreases-count_effect : goal.decreases-count_effect
decreases-count_effect l = load (effect_tree l.w.now)

abbrev pub decreases-count_effects : goal.decreases-count_effects
decreases-count_effects l = loads (effect_trees_of (map effect_tree l.ws.now))
