-- The true entries in order are those of the true changes.
use Rattle.std.proofs.Common.{◌≡◌, refl, sym, subst, Bool, true, false, List, [], ◌∷◌, ◌++◌, map, length, inl, inr, ⊎_elim, true≢false}
use Rattle.std.specs.Prelude.{if◌then◌else◌, ◌&&◌}
use Rattle.std.specs.List.{All, Contains, flat_map, list_all}
use Rattle.std.proofs.lemmas.List.Elements.{All-cons, All-nil, All-head, All-tail, Contains-append_left, Contains-append_right, Contains-append_cases}
use Rattle.std.proofs.lemmas.Option.{slice_get_within, slice_get_read, get_or_from_slice_get}
use Rattle.sp_values.specs.declared.value.Ty.{Ty}
use Rattle.sp_values.specs.declared.value.Value.{Value}
use Rattle.sp_values.specs.declared.place.Invocation.{Invocation}
use Rattle.sp_values.specs.Domains.{proper_values}
use Rattle.sp_core.specs.declared.state.Entry.{Entry}
use Rattle.sp_core.specs.Effects.{GuardedChange}
use Rattle.sp_core.specs.Machine.{AreBindings, Machine, value_at}
use Rattle.sp_core.specs.Tree.{Tree}
use Rattle.sp_core.specs.Values.{Store, World, is_true}
use Rattle.sp_core.proofs.Elements.{Contains-cons, Contains-nil, Contains-first, Contains-later}
use Rattle.sp_listing.specs.True.{AreOf, bindings, entries_at, entry_with, true_entries}

Contains-flat_map : {A B : Type 0} (f : A → List B) (xs : List A) (y : B) → Contains (flat_map f xs) y → (x : A) × Contains xs x × Contains (f x) y
Contains-flat_map f [] y h = absurd (Contains-nil y h)
Contains-flat_map f (x ∷ xs) y h = elim (Contains-append_cases (f x) (flat_map f xs) y h) [
  | inl k ↦ (x, Contains-first x xs, k)
  | inr k ↦ let q = Contains-flat_map f xs y k in (q.0, Contains-later x xs q.0 q.1, q.2)
]

flat_map-Contains : {A B : Type 0} (f : A → List B) (xs : List A) (x : A) (y : B) → Contains xs x → Contains (f x) y → Contains (flat_map f xs) y
flat_map-Contains f [] x y h k = absurd (Contains-nil x h)
flat_map-Contains f (z ∷ xs) x y h k = elim (Contains-cons z xs x h) [
  | inl e ↦ Contains-append_left (f z) (flat_map f xs) y (subst (λ u. Contains (f u) y) (sym e) k)
  | inr m ↦ Contains-append_right (f z) (flat_map f xs) y (flat_map-Contains f xs x y m k)
]

map-Contains : {A B : Type 0} (f : A → B) (xs : List A) (y : B) → Contains (map f xs) y → (x : A) × Contains xs x × (f x ≡ y)
map-Contains f [] y h = absurd (Contains-nil y h)
map-Contains f (x ∷ xs) y h = elim (Contains-cons (f x) (map f xs) y h) [
  | inl e ↦ (x, Contains-first x xs, e)
  | inr k ↦ let q = map-Contains f xs y k in (q.0, Contains-later x xs q.0 q.1, q.2)
]

Contains-mapped : {A B : Type 0} (f : A → B) (xs : List A) (x : A) → Contains xs x → Contains (map f xs) (f x)
Contains-mapped f [] x h = absurd (Contains-nil x h)
Contains-mapped f (z ∷ xs) x h = elim (Contains-cons z xs x h) [
  | inl e ↦ subst (λ u. Contains (map f (z ∷ xs)) (f u)) e (Contains-first (f z) (map f xs))
  | inr m ↦ Contains-later (f z) (map f xs) (f x) (Contains-mapped f xs x m)
]

-- bindings
are_bindings : (w : World) (ts : List Ty) (cs : List Value) → Contains (bindings w ts) cs → AreBindings w ts cs
are_bindings w [] cs h = subst (AreBindings w []) (⊎_elim (λ e. e) (λ n. absurd (Contains-nil cs n)) (Contains-cons [] [] cs h)) tt
are_bindings w (t ∷ ts) cs h =
    let q = Contains-flat_map (λ c. map (λ ds. c ∷ ds) (bindings w ts)) (proper_values w.sizes t) cs h in
    let r = map-Contains (λ ds. q.0 ∷ ds) (bindings w ts) cs q.2 in
    subst (AreBindings w (t ∷ ts)) r.2 (q.1, are_bindings w ts r.0 r.1)

all_bindings : (w : World) (ts : List Ty) (cs : List Value) → AreBindings w ts cs → Contains (bindings w ts) cs
all_bindings w [] [] b = Contains-first [] []
all_bindings w [] (c ∷ cs) b = absurd b
all_bindings w (t ∷ ts) [] b = absurd b
all_bindings w (t ∷ ts) (c ∷ cs) b =
    flat_map-Contains (λ d. map (λ ds. d ∷ ds) (bindings w ts)) (proper_values w.sizes t) c (c ∷ cs) b.0 (Contains-mapped (λ ds. c ∷ ds) (bindings w ts) cs (all_bindings w ts cs b.1))

-- guards
first_true : (a b : Bool) → (a && b) ≡ true → a ≡ true
first_true true b e = refl
first_true false b e = absurd (true≢false (sym e))

then_true : (a b : Bool) → (a && b) ≡ true → b ≡ true
then_true true b e = e
then_true false b e = absurd (true≢false (sym e))

both : (a b : Bool) → a ≡ true → b ≡ true → (a && b) ≡ true
both true b p q = q
both false b p q = absurd (true≢false (sym p))

all_held : (p : Tree → Bool) (gs : List Tree) → list_all p gs ≡ true → All (λ g. p g ≡ true) gs
all_held p [] h = All-nil (λ g. p g ≡ true)
all_held p (g ∷ gs) h = All-cons (λ g. p g ≡ true) g gs (first_true (p g) (list_all p gs) h) (all_held p gs (then_true (p g) (list_all p gs) h))

held_all : (p : Tree → Bool) (gs : List Tree) → All (λ g. p g ≡ true) gs → list_all p gs ≡ true
held_all p [] h = refl
held_all p (g ∷ gs) h = both (p g) (list_all p gs) (All-head (λ g. p g ≡ true) g gs h) (held_all p gs (All-tail (λ g. p g ≡ true) g gs h))

module _ (m : Machine) (s u : Store) (i : Invocation) where
  test : GuardedChange → List Value → Bool
  test a cs = list_all (λ g. is_true (value_at m s (i.args ++ cs) g)) a.guards

  one : GuardedChange → List Value → List Entry
  one a cs = if test a cs then entry_with m s u i a cs ∷ [] else []

  from_one : (b : Bool) (x e : Entry) → Contains (if b then x ∷ [] else []) e → (b ≡ true) × (e ≡ x)
  from_one true x e h = (refl, sym (⊎_elim (λ q. q) (λ n. absurd (Contains-nil e n)) (Contains-cons x [] e h)))
  from_one false x e h = absurd (Contains-nil e h)

  to_one : (b : Bool) (x : Entry) → b ≡ true → Contains (if b then x ∷ [] else []) x
  to_one true x h = Contains-first x []
  to_one false x h = absurd (true≢false (sym h))

  pub in_order : (as' : List GuardedChange) → AreOf m s u i as' (true_entries m s u i as')
  unfolding test one
  in_order as' = record {
    sound = λ n e there.
        let es = true_entries m s u i as' in
        let q = Contains-flat_map (entries_at m s u i.args) as' e (n, slice_get_within es n e there, get_or_from_slice_get es n e e there) in
        let r = Contains-flat_map (one q.0) (bindings m.world q.0.vars) e q.2 in
        let t = from_one (test q.0 r.0) (entry_with m s u i q.0 r.0) e r.2 in
        (q.0, r.0, record { of = q.1; bindings = are_bindings m.world q.0.vars r.0 r.1; held = all_held (λ g. is_true (value_at m s (i.args ++ r.0) g)) q.0.guards t.0 }, t.1);
    complete = λ a cs t.
        let es = true_entries m s u i as' in
        let e = entry_with m s u i a cs in
        let k = to_one (test a cs) e (held_all (λ g. is_true (value_at m s (i.args ++ cs) g)) a.guards t.held) in
        let c : Contains es e = flat_map-Contains (entries_at m s u i.args) as' a e t.of (flat_map-Contains (one a) (bindings m.world a.vars) cs e (all_bindings m.world a.vars cs t.bindings) k) in
        (c.0, slice_get_read es (length es) c.0 e refl c.1 (sym c.2));
  }
