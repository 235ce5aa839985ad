-- The elements of a list.
use Rattle.std.proofs.Common.{◌≡◌, refl, ap, ◌∙◌, arith, get_or, ℕ, zero, suc, ◌<◌, List, [], ◌∷◌, length, map, Some, ◌⊎◌, inl, inr}
use Rattle.std.specs.Prelude.{slice_get}
use Rattle.std.specs.List.{Contains}
use Rattle.std.proofs.Math.ListN.{get_or-map}
use Rattle.std.proofs.lemmas.List.{length-map}
use Rattle.std.proofs.lemmas.List.Elements.{Contains-append_right}
use Rattle.std.proofs.lemmas.Option.{get_or_from_slice_get, slice_get_within}

pub Contains-nil : {A : Type 0} (x : A) → Contains [] x → ⊥
Contains-nil x h = absurd (omega (arith, h.1))

pub Contains-first : {A : Type 0} (x : A) (xs : List A) → Contains (x ∷ xs) x
Contains-first x xs = (0, omega arith, refl)

pub Contains-later : {A : Type 0} (y : A) (xs : List A) (x : A) → Contains xs x → Contains (y ∷ xs) x
Contains-later y xs x h = Contains-append_right (y ∷ []) xs x h

pub Contains-cons : {A : Type 0} (y : A) (xs : List A) (x : A) → Contains (y ∷ xs) x → (y ≡ x) ⊎ Contains xs x
Contains-cons y xs x h = go h.0 h.1 h.2
  where
    go : (k : ℕ) → k < length (y ∷ xs) → get_or (y ∷ xs) k x ≡ x → (y ≡ x) ⊎ Contains xs x
    go zero l e = inl e
    go (suc k) l e = inr (k, omega (arith, l), e)

pub Contains-map : {A B : Type 0} (f : A → B) (xs : List A) (x : A) → Contains xs x → Contains (map f xs) (f x)
Contains-map f xs x h = (h.0, omega (arith, h.1, length-map xs f), get_or-map f xs h.0 x ∙ ap f h.2)

-- what stands at an index is an element, and an element stands at an index
pub slice_contains : {A : Type 0} (xs : List A) (k : ℕ) (x : A) → slice_get xs k ≡ Some x → Contains xs x
slice_contains xs k x e = (k, slice_get_within xs k x e, get_or_from_slice_get xs k x x e)

pub index_of : {A : Type 0} (xs : List A) (x : A) → Contains xs x → (k : ℕ) × (slice_get xs k ≡ Some x)
index_of [] x c = absurd (Contains-nil x c)
index_of (y ∷ xs) x c = elim (Contains-cons y xs x c) [
  | inl e ↦ (0, ap Some e)
  | inr k ↦ let r = index_of xs x k in (suc r.0, r.1)
]
