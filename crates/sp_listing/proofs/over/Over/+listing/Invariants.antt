use Rattle.std.proofs.Common.{◌≡◌, ◌++◌, ◌∷◌, [], map, suc, Some}
use Rattle.std.specs.Prelude.{slice_get}
use Rattle.std.specs.List.{flat_map, range_with_len}
use Rattle.sp_core.specs.Effects.{GuardedChange, changes_in, effect_tree, effect_trees_of}
use Rattle.sp_core.specs.States.{entry_of}
use Rattle.sp_eval.specs.Settings.{proper_at}
use Rattle.sp_listing.specs.Conditions.{machine}
use Rattle.sp_listing.specs.True.{entries_at}
use Rattle.sp_listing.proofs.Walks.{load, loads}
use Rattle.sp_listing.proofs.over.Over.+listing.Given as goal

abbrev pub decreases-list_change : goal.decreases-list_change
decreases-list_change l = load (effect_tree l.effect.now)

abbrev pub decreases-list_among : goal.decreases-list_among
decreases-list_among l = loads (effect_trees_of (map effect_tree l.effects.now))

abbrev pub decreases-list_for_each : goal.decreases-list_for_each
decreases-list_for_each l = suc (loads (effect_trees_of (map effect_tree l.body.now)))

abbrev pub invariant-list_for_each-loop-k : goal.invariant-list_for_each-loop-k
invariant-list_for_each-loop-k l =
    (a : GuardedChange) → slice_get (changes_in (effect_trees_of (map effect_tree l.body))) l.number ≡ Some a →
    l.out.items ≡ l.initial.out.items ++ flat_map (λ c. entries_at (machine l.self) (entry_of l.self.old) (entry_of l.self.new) (l.env ++ c ∷ []) a) (map (proper_at l.ty) (range_with_len 0 l.k))
