-- Changes that are listed in order before they are written: which is the first conflict among them, and how many entries a
-- state has with them.
use Rattle.std.specs.Prelude.{◌≡◌, ℕ, ◌+◌, ◌<◌, ◌≤◌, ◌⊎◌, is_some, if◌then◌else◌, List, [], ◌∷◌, ◌++◌, length, take, Option, Some, None, slice_get}
use Rattle.sp_text.specs.declared.limits.TheConstants.{MOST_CHANGED_PLACES}
use Rattle.sp_values.specs.declared.value.Value.{Value}
use Rattle.sp_values.specs.declared.place.Place.{Place}
use Rattle.sp_core.specs.declared.state.Entry.{Entry}
use Rattle.sp_core.specs.Values.{Store}
use Rattle.sp_core.specs.States.{AreApart, entry_of}
use Rattle.sp_listing.specs.declared.listed.ListFault.{ListFault}
use Rattle.sp_listing.specs.declared.listed.ListFault.TheVariants as fault

-- what the entries give the place of an entry
abbrev pub given_to : List Entry → Entry → Option Value
given_to es e = entry_of es e.place.fun e.place.args

-- no entry gives its place another value than an earlier one does
abbrev pub AreAlike : List Entry → Type 0
AreAlike es = (n : ℕ) (e : Entry) → slice_get es n ≡ Some e → given_to es e ≡ Some e.value

-- entry number n gives the place p the value y, an earlier one gives it x, and no conflict is before
pub record IsConflictAt (es : List Entry) (p : Place) (x y : Value) (n : ℕ) : Type 0 where
  pub there : slice_get es n ≡ Some (record { place = p; value = y })
  pub first : entry_of (take n es) p.fun p.args ≡ Some x
  pub other : x ≡ y → ⊥
  pub earlier : AreAlike (take n es)

-- the first conflict: which place it is of, and the two values in order
abbrev pub IsFirstConflict : List Entry → Place → Value → Value → Type 0
IsFirstConflict es p x y = (n : ℕ) × IsConflictAt es p x y n

-- why changes can't be listed
abbrev pub IsListFault : List Entry → ListFault → Type 0
IsListFault es (fault.Conflict p x y) = IsFirstConflict es p x y
IsListFault es fault.Memory = Unit {0}

-- a change is listed: its place has this value already, or it has none and is put last
abbrev pub IsAdded : List Entry → Place → Value → List Entry → Type 0
IsAdded old p x new =
    ((entry_of old p.fun p.args ≡ Some x) × (new ≡ old))
    ⊎ ((entry_of old p.fun p.args ≡ None) × (new ≡ old ++ record { place = p; value = x } ∷ []))

-- why a change isn't listed
abbrev pub IsClash : List Entry → Place → Value → ListFault → Type 0
IsClash old p y (fault.Conflict q x z) = (q ≡ p) × (z ≡ y) × (entry_of old p.fun p.args ≡ Some x) × (x ≡ y → ⊥)
IsClash old p y fault.Memory = Unit {0}

-- how many of the entries are of places that have none in the map
abbrev pub fresh : List Entry → Store → ℕ
fresh [] s = 0
fresh (e ∷ es) s = (if is_some (s e.place.fun e.place.args) then 0 else 1) + fresh es s

-- entries, no two of one place, whose map is the state
pub record AreEntriesOf (s : Store) (es : List Entry) : Type 0 where
  pub apart : AreApart es
  pub map : entry_of es ≡ s

-- the state has n entries
abbrev pub HasEntries : Store → ℕ → Type 0
HasEntries s n = (es : List Entry) × AreEntriesOf s es × (length es ≡ n)

-- the state has more entries than a state in memory may have
abbrev pub IsOverfull : Store → Type 0
IsOverfull s = (n : ℕ) × HasEntries s n × (MOST_CHANGED_PLACES < n)

-- it has no more than that
abbrev pub IsWithin : Store → Type 0
IsWithin s = (n : ℕ) × HasEntries s n × (n ≤ MOST_CHANGED_PLACES)
