-- A table of pairs below a count, as the list of its pairs in order.
use Rattle.std.specs.Prelude.{◌≡◌, ◌==◌, ℕ, zero, suc, ◌+◌, ◌*◌, ◌/◌, ◌%◌, ◌<◌, ◌≤◌, ◌||◌, ◌&&◌, not, Bool, true, false, cond, List, [], ◌∷◌, ◌++◌, slice_index, refl}
use Rattle.std.specs.List.{list_any}
use Rattle.std.specs.Int.{bit_at}
use Rattle.std.specs.Coded.{Coded, code_by, coded×, coded_ℕ, coded_list}

pub record Bits : Type 0 where
  pub count : ℕ
  pub pairs : List (ℕ × ℕ)

abbrev pub bits_code : Coded Bits
bits_code =
    code_by (ℕ × List (ℕ × ℕ)) (coded× coded_ℕ (coded_list (coded× coded_ℕ coded_ℕ))) (λ b. (b.count, b.pairs)) (λ p. record { count = p.0; pairs = p.1 }) (λ _. refl)

-- a and b are i and j
abbrev pub is_pair : ℕ → ℕ → ℕ → ℕ → Bool
is_pair i j a b = (a == i) && (b == j)

-- the pair is in the table
unfoldable pub has : Bits → ℕ → ℕ → Bool
has t i j = list_any (λ p. is_pair i j p.0 p.1) t.pairs

-- the pairs (i, j) that pass, with j below m
abbrev pub row : (ℕ → ℕ → Bool) → ℕ → ℕ → List (ℕ × ℕ)
row p i zero = []
row p i (suc m) = row p i m ++ cond (p i m) ((i, m) ∷ []) []

-- the same with j below n and i below m
abbrev pub rows : (ℕ → ℕ → Bool) → ℕ → ℕ → List (ℕ × ℕ)
rows p n zero = []
rows p n (suc m) = rows p n m ++ row p m n

-- the table of the pairs below n that pass
abbrev pub table : ℕ → (ℕ → ℕ → Bool) → Bits
table n p = record { count = n; pairs = rows p n n }

abbrev pub empty_table : ℕ → Bits
empty_table n = record { count = n; pairs = [] }

-- a table is made by its own test: its pairs are different, below the count, and in order of the first number, then of the
-- second
abbrev pub IsTable : Bits → Type 0
IsTable t = t ≡ table t.count (has t)

abbrev pub with_pair : Bits → ℕ → ℕ → Bits
with_pair t i j = table t.count (λ a b. is_pair i j a b || has t a b)

abbrev pub without_pair : Bits → ℕ → ℕ → Bits
without_pair t i j = table t.count (λ a b. not (is_pair i j a b) && has t a b)

abbrev pub has_bit : ℕ → ℕ → Bool
has_bit word r = bit_at word r == 1

-- the k-th bit of a list of words
abbrev pub bit_in : List ℕ → ℕ → Bool
bit_in words k = has_bit (slice_index words (k / 64)) (k % 64)

-- the j-th bit of row i, where a row has this many bits
abbrev pub bit_of : List ℕ → ℕ → ℕ → ℕ → Bool
bit_of words bits i j = bit_in words (i * bits + j)

-- no bit past the n-th is set in the first n rows, where a row has this many bits
abbrev pub HaveNoneAfter : List ℕ → ℕ → ℕ → Type 0
HaveNoneAfter words n bits = (i j : ℕ) → i < n → n ≤ j → j < bits → bit_of words bits i j ≡ false

-- each of the n bits from word a on is one of those from word b on
abbrev pub AreWithin : List ℕ → ℕ → ℕ → ℕ → Type 0
AreWithin words a b n = (m : ℕ) → m < n → bit_in words (64 * a + m) ≡ true → bit_in words (64 * b + m) ≡ true
