-- What names nothing in an instance has no text.
use Rattle.std.proofs.Common.{◌≡◌, ◌∙◌, ℕ, zero, suc, ◌<◌, ◌≤◌, List, [], ◌∷◌, ap, arith, inl, inr, length, map, refl, sym}
use Rattle.std.specs.Prelude.{None, Some, slice_get, slice_index_or}
use Rattle.std.proofs.lemmas.List.{length-map}
use Rattle.std.proofs.lemmas.Option.{slice_get_cases}
use Rattle.sp_core.specs.Instances.{InstanceParts, IsInstanceOf, filling_of}
use Rattle.sp_core.specs.Parts.{Parts}
use Rattle.sp_report.specs.Constants.{name_or_nothing, nth_name}

at_size : (ms : List (List (List ℕ))) (k : ℕ) → slice_index_or (map (λ (names : List (List ℕ)). length names) ms) k 0 ≡ length (slice_index_or ms k [])
at_size [] k = refl
at_size (m ∷ ms) zero = refl
at_size (m ∷ ms) (suc k) = at_size ms k

past : (ms : List (List (List ℕ))) (k : ℕ) → length ms ≤ k → slice_index_or ms k [] ≡ []
past [] k h = refl
past (m ∷ ms) zero h = absurd (omega (arith, h))
past (m ∷ ms) (suc k) h = past ms k (omega (arith, h))

module _ (p : Parts) (i : InstanceParts) (is : IsInstanceOf p i) where
  pub as_many : length i.members ≡ length p.types
  as_many = sym (length-map i.members (λ (names : List (List ℕ)). length names)) ∙ is.instance.sizes

  -- a member beyond those of its type
  pub no_member : (k m : ℕ) → (k < length p.types → slice_index_or (filling_of i).sizes k 0 ≤ m) → nth_name (slice_index_or i.members k []) m ≡ []
  no_member k m h = elim (slice_get_cases (slice_index_or i.members k []) m).1 [
    | inl found ↦ absurd (beyond found.1)
    | inr none ↦ ap name_or_nothing none.1
  ]
    where
      beyond : m < length (slice_index_or i.members k []) → ⊥
      beyond less =
          let few : k < length p.types → ⊥ = λ below. let s = at_size i.members k in let g = h below in omega (arith, s, g, less) in
          let long : length i.members ≤ k = let n = as_many in omega (arith, n, few) in
          let none : length (slice_index_or i.members k []) ≡ 0 = ap (λ (names : List (List ℕ)). length names) (past i.members k long) in
          omega (arith, none, less)

  pub no_type : (k m : ℕ) → length p.types ≤ k → nth_name (slice_index_or i.members k []) m ≡ []
  no_type k m h = no_member k m (λ below. absurd (omega (arith, h, below)))
