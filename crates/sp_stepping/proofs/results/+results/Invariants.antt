use Rattle.std.proofs.Common.{map}
use Rattle.sp_core.specs.Effects.{effect_tree, effect_trees_of}
use Rattle.sp_listing.proofs.Walks.{load, loads}
use Rattle.sp_stepping.proofs.results.+results.Given as goal

abbrev pub decreases-first_of : goal.decreases-first_of
decreases-first_of l = load (effect_tree l.effect.now)

abbrev pub decreases-first_among : goal.decreases-first_among
decreases-first_among l = loads (effect_trees_of (map effect_tree l.effects.now))
