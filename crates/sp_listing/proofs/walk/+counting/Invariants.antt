use Rattle.std.proofs.Common.{map}
use Rattle.sp_core.specs.Effects.{effect_tree, effect_trees_of}
use Rattle.sp_listing.proofs.Walks.{load, loads}
use Rattle.sp_listing.proofs.walk.+counting.Given as goal

abbrev pub decreases-count : goal.decreases-count
decreases-count l = load (effect_tree l.effect.now)

abbrev pub decreases-count_all : goal.decreases-count_all
decreases-count_all l = loads (effect_trees_of (map effect_tree l.effects.now))
