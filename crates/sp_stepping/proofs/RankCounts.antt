-- How many ranks the changes have, told from the list of their ranks; and that they are few.
use Rattle.std.proofs.Common.{◌≡◌, refl, ap, ◌∙◌, arith, ℕ, zero, suc, ◌≤◌, List, [], ◌∷◌, length, map}
use Rattle.std.specs.Prelude.{max}
use Rattle.sp_core.specs.Effects.{GuardedChange}
use Rattle.sp_core.specs.Ranks.{change_rank, functions_before, greatest, longest_within, rank_count}

counted : (r : ℕ → ℕ) (as' : List GuardedChange) → greatest suc (map (λ a. r a.fun) as') ≡ greatest (λ g. suc (r g)) (map (λ a. a.fun) as')
counted r [] = refl
counted r (a ∷ as') = ap (λ n. max (suc (r a.fun)) n) (counted r as')

pub count_is : (as' : List GuardedChange) (ns : List ℕ) → ns ≡ map (λ a. change_rank as' a.fun) as' → greatest suc ns ≡ rank_count as'
count_is as' ns e = ap (greatest suc) e ∙ counted (change_rank as') as'

greatest_le : (f : ℕ → ℕ) (gs : List ℕ) (n : ℕ) → ((g : ℕ) → f g ≤ n) → greatest f gs ≤ n
greatest_le f [] n h = omega arith
greatest_le f (g ∷ gs) n h = let one = h g in let rest = greatest_le f gs n h in omega (arith, one, rest)

longest_le : (as' : List GuardedChange) (n g : ℕ) → longest_within as' n g ≤ n
longest_le as' zero g = omega arith
longest_le as' (suc n) g = greatest_le (λ h. suc (longest_within as' n h)) (functions_before as' g) (suc n) (λ h. let q = longest_le as' n h in omega (arith, q))

pub few_ranks : (as' : List GuardedChange) → rank_count as' ≤ suc (length as')
few_ranks as' = greatest_le (λ g. suc (change_rank as' g)) (map (λ a. a.fun) as') (suc (length as')) (λ g. let q = longest_le as' (length as') g in omega (arith, q))
