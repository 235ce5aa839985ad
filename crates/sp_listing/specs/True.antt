-- The true changes of an invocation as a list: in text order, and for each the bindings of its variables in lexicographic
-- order. In this order the first conflict is looked for; the state after the changes doesn't depend on it.
use Rattle.std.specs.Prelude.{◌≡◌, ℕ, Bool, if◌then◌else◌, List, [], ◌∷◌, ◌++◌, map, Some, slice_get}
use Rattle.std.specs.List.{flat_map, list_all}
use Rattle.sp_values.specs.declared.value.Ty.{Ty}
use Rattle.sp_values.specs.declared.value.Value.{Value}
use Rattle.sp_values.specs.declared.place.Invocation.{Invocation}
use Rattle.sp_values.specs.Domains.{proper_values}
use Rattle.sp_core.specs.declared.state.Entry.{Entry}
use Rattle.sp_core.specs.Effects.{GuardedChange}
use Rattle.sp_core.specs.Machine.{IsTrueChange, Machine, given, target, value_at}
use Rattle.sp_core.specs.Values.{Store, World, is_true, look, value_over, values_of}

-- the entry that a change makes in environment x, over an old and a new state
abbrev pub entry_at : Machine → Store → Store → List Value → GuardedChange → Entry
entry_at m s u x a = record {
  place = record { fun = a.fun; args = values_of m.world (look m.world m.functions s) (look m.world m.functions u) x a.args };
  value = value_over m.world m.functions s u x a.value;
}

-- whether all guards of a change are TRUE in environment x
abbrev pub is_held : Machine → Store → List Value → GuardedChange → Bool
is_held m s x a = list_all (λ g. is_true (value_at m s x g)) a.guards

-- proper values of these types, in lexicographic order
abbrev pub bindings : World → List Ty → List (List Value)
bindings w [] = [] ∷ []
bindings w (t ∷ ts) = flat_map (λ c. map (λ cs. c ∷ cs) (bindings w ts)) (proper_values w.sizes t)

-- the entry of a change in environment x, where its guards are TRUE
abbrev pub entry_if : Machine → Store → Store → List Value → GuardedChange → List Entry
entry_if m s u x a = if is_held m s x a then entry_at m s u x a ∷ [] else []

-- the entries of one change, whose variables stand behind the values x, for the bindings for which its guards are TRUE
abbrev pub entries_at : Machine → Store → Store → List Value → GuardedChange → List Entry
entries_at m s u x a = flat_map (λ cs. entry_if m s u (x ++ cs) a) (bindings m.world a.vars)

-- the entries of all true changes among these
abbrev pub true_entries : Machine → Store → Store → Invocation → List GuardedChange → List Entry
true_entries m s u i as' = flat_map (entries_at m s u i.args) as'

-- the entry of a change of an invocation, with the values cs of its variables
abbrev pub entry_with : Machine → Store → Store → Invocation → GuardedChange → List Value → Entry
entry_with m s u i a cs = record { place = record { fun = a.fun; args = target m s u i a cs }; value = given m s u i a cs }

-- a list of entries is that of the true changes, in whatever order
pub record AreOf (m : Machine) (s u : Store) (i : Invocation) (as' : List GuardedChange) (es : List Entry) : Type 0 where
  pub sound : (n : ℕ) (e : Entry) → slice_get es n ≡ Some e → (a : GuardedChange) × (cs : List Value) × IsTrueChange m s i as' a cs × (e ≡ entry_with m s u i a cs)
  pub complete : (a : GuardedChange) (cs : List Value) → IsTrueChange m s i as' a cs → (n : ℕ) × (slice_get es n ≡ Some (entry_with m s u i a cs))
