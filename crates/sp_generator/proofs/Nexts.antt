-- A list from one of its elements on.
use Rattle.std.proofs.Common.{◌≡◌, sym, ◌∙◌, ap, arith, ℕ, zero, suc, ◌+◌, ◌<◌, List, [], ◌∷◌, map, length, drop, get_or}

after : {X : Type 0} (xs : List X) (k : ℕ) (x : X) → k < length xs → x ≡ get_or xs k x → drop k xs ≡ x ∷ drop (suc k) xs
after [] k x l e = absurd (omega (arith, l))
after (y ∷ xs) zero x l e = ap (λ z. z ∷ xs) (sym e)
after (y ∷ xs) (suc k) x l e = after xs k x (omega (arith, l)) e

pub next_here : {X : Type 0} (xs : List X) (k : ℕ) (x : X) → k < length xs → x ≡ get_or xs k x → drop k xs ≡ x ∷ drop (k + 1) xs
next_here xs k x l e = let n : suc k ≡ k + 1 = omega arith in after xs k x l e ∙ ap (λ n. x ∷ drop n xs) n

after_map : {X Y : Type 0} (f : X → Y) (xs : List X) (k : ℕ) (x : X) → k < length xs → x ≡ get_or xs k x → drop k (map f xs) ≡ f x ∷ drop (suc k) (map f xs)
after_map f [] k x l e = absurd (omega (arith, l))
after_map f (y ∷ xs) zero x l e = ap (λ z. f z ∷ map f xs) (sym e)
after_map f (y ∷ xs) (suc k) x l e = after_map f xs k x (omega (arith, l)) e

pub next_from : {X Y : Type 0} (f : X → Y) (xs : List X) (k : ℕ) (x : X) → k < length xs → x ≡ get_or xs k x → drop k (map f xs) ≡ f x ∷ drop (k + 1) (map f xs)
next_from f xs k x l e = let n : suc k ≡ k + 1 = omega arith in after_map f xs k x l e ∙ ap (λ n. f x ∷ drop n (map f xs)) n
