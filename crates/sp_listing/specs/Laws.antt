-- Laws of listing, stated for the step. Each is proved at a function of the same name.
use Rattle.std.specs.Prelude.{◌≡◌, ℕ, ◌+◌, List}
use Rattle.sp_values.specs.declared.value.Value.{Value}
use Rattle.sp_values.specs.declared.place.Place.{Place}
use Rattle.sp_values.specs.declared.place.Invocation.{Invocation}
use Rattle.sp_core.specs.declared.state.Entry.{Entry}
use Rattle.sp_core.specs.Effects.{GuardedChange}
use Rattle.sp_core.specs.Machine.{Changes, Conflict, Machine}
use Rattle.sp_core.specs.Values.{Store}
use Rattle.sp_core.specs.States.{AreApart, entry_of}
use Rattle.sp_eval.specs.Overlays.{overlay}
use Rattle.sp_listing.specs.Listing.{AreAlike, HasEntries, IsFirstConflict, fresh}
use Rattle.sp_listing.specs.True.{AreOf, true_entries}

-- the true entries in order are those of the true changes
abbrev pub OrderLaw : Type 0
OrderLaw = (m : Machine) (s u : Store) (i : Invocation) (as' : List GuardedChange) → AreOf m s u i as' (true_entries m s u i as')

-- without a conflict, their map over the base is the state after the changes
abbrev pub ChangedLaw : Type 0
ChangedLaw = (m : Machine) (s u : Store) (i : Invocation) (as' : List GuardedChange) (es : List Entry) → AreOf m s u i as' es → AreAlike es → Changes m s u i as' (overlay (entry_of es) u)

-- a first conflict among them is one of two true changes
abbrev pub ClashLaw : Type 0
ClashLaw = (m : Machine) (s u : Store) (i : Invocation) (as' : List GuardedChange) (es : List Entry) → AreOf m s u i as' es →
    (p : Place) (x y : Value) → IsFirstConflict es p x y → Conflict m s u i as'

-- entries laid over a state make as many more as are of places that have none
abbrev pub EntriesLaw : Type 0
EntriesLaw = (es : List Entry) (s : Store) (n : ℕ) → AreApart es → HasEntries s n → HasEntries (overlay (entry_of es) s) (n + fresh es s)

-- a state has one number of entries; so it isn't both too large and not
abbrev pub CountLaw : Type 0
CountLaw = (s : Store) (n k : ℕ) → HasEntries s n → HasEntries s k → n ≡ k
