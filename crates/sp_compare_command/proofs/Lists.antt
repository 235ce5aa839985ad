-- The items of a list up to a place.
use Rattle.std.proofs.Common.{◌≡◌, ◌∙◌, ℕ, ◌+◌, zero, suc, List, [], ◌∷◌, ◌++◌, Some, ap, arith, slice_get, take}

got_next : {X : Type 0} (xs : List X) (k : ℕ) (x : X) → slice_get xs k ≡ Some x → take k xs ++ x ∷ [] ≡ take (suc k) xs
got_next [] k x e = absurd cc
got_next (y ∷ ys) zero x e = let same : x ≡ y = cc in ap (λ z. z ∷ []) same
got_next (y ∷ ys) (suc k) x e = ap (λ zs. y ∷ zs) (got_next ys k x e)

-- the items up to a place, and the one there
pub next_got : {X : Type 0} (xs : List X) (k : ℕ) (x : X) → slice_get xs k ≡ Some x → take k xs ++ x ∷ [] ≡ take (k + 1) xs
next_got xs k x e =
    let more : suc k ≡ k + 1 = omega arith in
    got_next xs k x e ∙ ap (λ n. take n xs) more
