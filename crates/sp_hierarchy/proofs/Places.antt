-- A step for each of a list, at one place: the value there is that of the item there.
use Rattle.std.proofs.Common.{◌≡◌, ◌∙◌, ℕ, zero, suc, List, [], ◌∷◌, None, Some, Ok, Err, ap, refl, slice_get, subst, sym}
use Rattle.sp_frame.specs.Steps.{Each, Step}

module _ {X T : Type 0} (step : X → Step T) where
  head_of : (ys ws : List T) (w y : T) → ys ≡ w ∷ ws → slice_get ys 0 ≡ Some y → w ≡ y
  head_of ys ws w y is d = let here : Some w ≡ Some y = sym (ap (λ v. slice_get v 0) is) ∙ d in cc

  -- the step comes to the value of the same place
  pub each_at : (xs : List X) (ys : List T) (k : ℕ) (x : X) (y : T) → Each step xs (Ok ys) → slice_get xs k ≡ Some x → slice_get ys k ≡ Some y → step x (Ok y)
  each_at [] ys k x y h e d = absurd cc
  each_at (z ∷ zs) ys k x y (Err r, first, rest) e d = absurd cc
  each_at (z ∷ zs) ys k x y (Ok w, first, (Err r, more, rest)) e d = absurd cc
  each_at (z ∷ zs) ys zero x y (Ok w, first, (Ok ws, more, rest)) e d =
      let is : ys ≡ w ∷ ws = cc in
      let own : z ≡ x = cc in
      subst (λ u. step u (Ok y)) own (subst (λ v. step z (Ok v)) (head_of ys ws w y is d) first)
  each_at (z ∷ zs) ys (suc k) x y (Ok w, first, (Ok ws, more, rest)) e d =
      let is : ys ≡ w ∷ ws = cc in
      each_at zs ws k x y more e (sym (ap (λ v. slice_get v (suc k)) is) ∙ d)

  -- each value is that of an item
  pub each_from : (xs : List X) (ys : List T) (k : ℕ) (y : T) → Each step xs (Ok ys) → slice_get ys k ≡ Some y → (x : X) × (slice_get xs k ≡ Some x) × step x (Ok y)
  each_from [] ys k y h d = let is : ys ≡ [] = cc in let none : None ≡ Some y = sym (ap (λ v. slice_get v k) is) ∙ d in absurd cc
  each_from (z ∷ zs) ys k y (Err r, first, rest) d = absurd cc
  each_from (z ∷ zs) ys k y (Ok w, first, (Err r, more, rest)) d = absurd cc
  each_from (z ∷ zs) ys zero y (Ok w, first, (Ok ws, more, rest)) d =
      let is : ys ≡ w ∷ ws = cc in
      (z, refl, subst (λ v. step z (Ok v)) (head_of ys ws w y is d) first)
  each_from (z ∷ zs) ys (suc k) y (Ok w, first, (Ok ws, more, rest)) d =
      let is : ys ≡ w ∷ ws = cc in
      each_from zs ws k y more (sym (ap (λ v. slice_get v (suc k)) is) ∙ d)

  -- each item has its value
  pub each_there : (xs : List X) (ys : List T) (k : ℕ) (x : X) → Each step xs (Ok ys) → slice_get xs k ≡ Some x → (y : T) × (slice_get ys k ≡ Some y) × step x (Ok y)
  each_there [] ys k x h e = absurd cc
  each_there (z ∷ zs) ys k x (Err r, first, rest) e = absurd cc
  each_there (z ∷ zs) ys k x (Ok w, first, (Err r, more, rest)) e = absurd cc
  each_there (z ∷ zs) ys zero x (Ok w, first, (Ok ws, more, rest)) e =
      let is : ys ≡ w ∷ ws = cc in
      let own : z ≡ x = cc in
      (w, ap (λ v. slice_get v 0) is, subst (λ u. step u (Ok w)) own first)
  each_there (z ∷ zs) ys (suc k) x (Ok w, first, (Ok ws, more, rest)) e =
      let is : ys ≡ w ∷ ws = cc in
      let found = each_there zs ws k x more e in
      (found.0, ap (λ v. slice_get v (suc k)) is ∙ found.1, found.2)
