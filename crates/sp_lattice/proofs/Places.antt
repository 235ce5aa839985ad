-- Places of a flat table, as rows and columns.
use Rattle.std.proofs.Common.{ℕ, zero, suc, ◌+◌, ◌*◌, ◌/◌, ◌%◌, ◌<◌, ⊎_elim, inl, inr, List, [], ◌∷◌, ◌++◌, subst, arith}
use Rattle.std.specs.List.{Contains}
use Rattle.std.proofs.lemmas.List.Elements.{Contains-push_cases}
use Rattle.std.proofs.Math.Nat.{mul-le-mul_right}
use Rattle.std.proofs.lemmas.Nat.{div-mul-add, mod-mul-add, mul-add-lt, div-add-mod', div_below, mod_below}
use Rattle.sp_lattice.specs.Refusal.{IsEarlier, IsFirstPair}

-- what holds of each place before one holds of each earlier row and column
pub earlier_place : (count a b x y : ℕ) → b < count → IsEarlier a b x y → a * count + b < x * count + y
earlier_place count a b x y inside (inl less) = omega (arith, mul-le-mul_right {m = a + 1} {n = x} count (omega arith))
earlier_place count a b x y inside (inr same) = rw same.0 (omega arith)

pub place_below : (count x y : ℕ) → x < count → y < count → x * count + y < count * count
place_below count x y p q = mul-add-lt x count y count p q

-- a fact of the row and column of each place below k, at a row and a column
pub at_place : (P : ℕ → ℕ → Type 0) (count k : ℕ) → ((n : ℕ) → n < k → P (n / count) (n % count))
    → (a b : ℕ) → b < count → a * count + b < k → P a b
at_place P count k h a b inside below =
    subst (λ n. P n b) (div-mul-add a count b inside)
    (subst (λ n. P ((a * count + b) / count) n) (mod-mul-add a count b inside) (h (a * count + b) below))

pub row_below : (count k : ℕ) → 0 < count → k < count * count → k / count < count
row_below count k some below = div_below k count count some below

pub column_below : (count k : ℕ) → 0 < count → k % count < count
column_below count k some = mod_below k count some

pub some_column : (count k : ℕ) → k < count * count → 0 < count
some_column zero k below = absurd (omega (arith, below))
some_column (suc n) k below = omega arith

module _ (count k : ℕ) (within : k < count * count) (P : ℕ → ℕ → Type 0) where
  -- what no earlier place has and this one has: its row and column are the first pair
  pub first_at_place : ((n : ℕ) → n < k → n / count < n % count → P (n / count) (n % count) → ⊥)
      → k / count < k % count → P (k / count) (k % count) → IsFirstPair count P (k / count) (k % count)
  first_at_place before ordered there = record {
    ordered = ordered;
    level = column_below count k (some_column count k within);
    there = there;
    first = λ a b less level earlier p.
        let sooner : a * count + b < k = omega (arith, earlier_place count a b (k / count) (k % count) level earlier, div-add-mod' k count) in
        at_place (λ x y. x < y → P x y → ⊥) count k before a b level sooner less p;
  }

-- what no place has, no row and column has
pub none_at_places : (count : ℕ) (P : ℕ → ℕ → Type 0) → ((n : ℕ) → n < count * count → n / count < n % count → P (n / count) (n % count) → ⊥)
    → (x y : ℕ) → x < y → y < count → P x y → ⊥
none_at_places count P before x y less level p =
    at_place (λ a b. a < b → P a b → ⊥) count (count * count) before x y level (place_below count x y (omega arith) level) less p

-- a pair more in a list, at one place more
pub pairs_more : (pairs : List (ℕ × ℕ)) (P : ℕ → ℕ → Type 0) (x y : ℕ) → P x y → ((a b : ℕ) → Contains pairs (a, b) → P a b)
    → (a b : ℕ) → Contains (pairs ++ (x, y) ∷ []) (a, b) → P a b
pairs_more pairs P x y there h a b c = ⊎_elim (h a b) (λ e. subst (λ (p : ℕ × ℕ). P p.0 p.1) e there) (Contains-push_cases pairs (x, y) (a, b) c)
