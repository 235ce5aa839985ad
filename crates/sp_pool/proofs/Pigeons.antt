-- That different places can't share fewer numbers than there are places.
use Rattle.std.proofs.Common.{◌≡◌, ℕ, zero, suc, ◌<◌, ◌≤◌, cond, eqb, arith}
use Rattle.std.proofs.lemmas.Bool.Decides.{nat_tests}

-- with the last number m given to the one that had v
moved : (ℕ → ℕ) → ℕ → ℕ → ℕ → ℕ
moved f m v i = cond (eqb (f i) m) v (f i)

moved_below : (f : ℕ → ℕ) (m v i : ℕ) → f i < suc m → v < suc m → (f i ≡ v → ⊥) → moved f m v i < m
unfolding moved
moved_below f m v i p q apart = grind (arith, nat_tests, apart)

moved_apart : (f : ℕ → ℕ) (m v i j : ℕ) → (f i ≡ v → ⊥) → (f j ≡ v → ⊥) → moved f m v i ≡ moved f m v j → f i ≡ f j
unfolding moved
moved_apart f m v i j p q e = grind (arith, nat_tests, p, q)

pub pigeons : (m n : ℕ) (f : ℕ → ℕ) → ((i : ℕ) → i < n → f i < m) → ((i j : ℕ) → i < n → j < n → f i ≡ f j → i ≡ j) → n ≤ m
pigeons m zero f below apart = omega arith
pigeons zero (suc n) f below apart = absurd (omega (arith, below 0 (omega arith)))
pigeons (suc m) (suc n) f below apart =
    more (pigeons m n (moved f m (f n)) (λ i p. moved_below f m (f n) i (below i (omega arith)) (below n (omega arith)) (last i p))
    (λ i j p q e. apart i j (omega arith) (omega arith) (moved_apart f m (f n) i j (last i p) (last j q) e)))
  where
    more : n ≤ m → suc n ≤ suc m
    more h = omega arith

    last : (i : ℕ) → i < n → f i ≡ f n → ⊥
    last i inside e = let same : i ≡ n = apart i n (omega arith) (omega arith) e in omega arith
