-- What is in a table.
use Rattle.std.proofs.Common.{◌≡◌, ◌≢◌, ℕ, zero, suc, ◌+◌, ◌*◌, ◌/◌, ◌%◌, ◌<◌, ◌⊎◌, ⊎_elim, get_or, replicate, ◌||◌, ◌&&◌, not, Bool, true, false, cond, eqb, ltb, List, [], ◌∷◌, ◌++◌, refl, sym, ap, ◌∙◌, subst, length, ◌≤◌, length-append, arith}
use Rattle.std.specs.List.{list_any}
use Rattle.std.specs.Int.{bit_at}
use Rattle.std.proofs.lemmas.Nat.Bits.{bit_at-zero}
use Rattle.std.proofs.lemmas.Nat.{same_from_place}
use Rattle.std.proofs.lemmas.Bool.Decides.{nat_tests, eqb_tells, Decides-ltb}
use Rattle.std.proofs.lemmas.List.Folds.{list_any-append}
use Rattle.sp_bits.specs.Table.{AreWithin, Bits, HaveNoneAfter, IsTable, has_bit, table, row, rows, has, is_pair, empty_table, bit_of, bit_in}
use Rattle.std.proofs.lemmas.Bool.{eqb-true}
use Rattle.sp_bits.proofs.Words.{bit_in_word}

abbrev one : (ℕ → ℕ → Bool) → ℕ → ℕ → List (ℕ × ℕ)
one p i m = cond (p i m) ((i, m) ∷ []) []

abbrev found : ℕ → ℕ → List (ℕ × ℕ) → Bool
found a b ps = list_any (λ q. is_pair a b q.0 q.1) ps

one-found : (c : Bool) (i m a b : ℕ) → found a b (cond c ((i, m) ∷ []) []) ≡ (c && (eqb i a && eqb m b))
one-found true i m a b = grind (arith, nat_tests)
one-found false i m a b = refl

row_step : (i a b m : ℕ) (x y : Bool) → (b ≡ m → x ≡ y) → ((eqb i a && (ltb b m && x)) || (y && (eqb i a && eqb m b))) ≡ (eqb i a && (ltb b (suc m) && x))
row_step i a b m x y e = grind (arith, nat_tests)

row-found : (p : ℕ → ℕ → Bool) (i m a b : ℕ) → found a b (row p i m) ≡ (eqb i a && (ltb b m && p i b))
row-found p i zero a b = grind (arith, nat_tests)
row-found p i (suc m) a b =
    list_any-append _ (row p i m) (one p i m)
    ∙ ap (λ x. x || found a b (one p i m)) (row-found p i m a b)
    ∙ ap (λ x. (eqb i a && (ltb b m && p i b)) || x) (one-found (p i m) i m a b)
    ∙ row_step i a b m (p i b) (p i m) (ap (p i))

rows_step : (a b n m : ℕ) (x y : Bool) → (a ≡ m → x ≡ y) → ((ltb a m && (ltb b n && x)) || (eqb m a && (ltb b n && y))) ≡ (ltb a (suc m) && (ltb b n && x))
rows_step a b n m x y e = grind (arith, nat_tests)

rows-found : (p : ℕ → ℕ → Bool) (n m a b : ℕ) → found a b (rows p n m) ≡ (ltb a m && (ltb b n && p a b))
rows-found p n zero a b = grind (arith, nat_tests)
rows-found p n (suc m) a b =
    list_any-append _ (rows p n m) (row p m n)
    ∙ ap (λ x. x || found a b (row p m n)) (rows-found p n m a b)
    ∙ ap (λ x. (ltb a m && (ltb b n && p a b)) || x) (row-found p m n a b)
    ∙ rows_step a b n m (p a b) (p m b) (ap (λ i. p i b))

pub has-table : (n : ℕ) (p : ℕ → ℕ → Bool) (a b : ℕ) → has (table n p) a b ≡ (ltb a n && (ltb b n && p a b))
unfolding has
has-table n p a b = rows-found p n n a b

row-same : (p q : ℕ → ℕ → Bool) (i m : ℕ) → ((b : ℕ) → b < m → p i b ≡ q i b) → row p i m ≡ row q i m
row-same p q i zero h = refl
row-same p q i (suc m) h =
    ap (λ x. x ++ one p i m) (row-same p q i m (λ b l. h b (omega arith)))
    ∙ ap (λ c. row q i m ++ cond c ((i, m) ∷ []) []) (h m (omega arith))

rows-same : (p q : ℕ → ℕ → Bool) (n m : ℕ) → ((a b : ℕ) → a < m → b < n → p a b ≡ q a b) → rows p n m ≡ rows q n m
rows-same p q n zero h = refl
rows-same p q n (suc m) h =
    ap (λ x. x ++ row p m n) (rows-same p q n m (λ a b l k. h a b (omega arith) k))
    ∙ ap (λ x. rows q n m ++ x) (row-same p q m n (λ b l. h m b (omega arith) l))

pub table-same : (n : ℕ) (p q : ℕ → ℕ → Bool) → ((a b : ℕ) → a < n → b < n → p a b ≡ q a b) → table n p ≡ table n q
table-same n p q h = ap (λ (ps : List (ℕ × ℕ)). let t : Bits = record { count = n; pairs = ps } in t) (rows-same p q n n h)

row_place : (n i j a b : ℕ) → j < n → b < n → eqb (a * n + b) (i * n + j) ≡ is_pair i j a b
row_place n i j a b l k = ⊎_elim same apart (eqb_tells (a * n + b) (i * n + j))
  where
    same : (eqb (a * n + b) (i * n + j) ≡ true) × (a * n + b ≡ i * n + j) → eqb (a * n + b) (i * n + j) ≡ is_pair i j a b
    same h =
        let p : (a ≡ i) × (b ≡ j) = same_from_place a b i j n k l h.1 in
        h.0 ∙ sym (ap (λ x. eqb x i && eqb b j) p.0 ∙ ap (λ x. eqb i i && eqb x j) p.1 ∙ grind (arith, nat_tests))

    apart : (eqb (a * n + b) (i * n + j) ≡ false) × (a * n + b ≢ i * n + j) → eqb (a * n + b) (i * n + j) ≡ is_pair i j a b
    apart h =
        let no : (a ≡ i) → (b ≡ j) → ⊥ = λ p q. h.1 (ap (λ x. x * n + b) p ∙ ap (λ x. i * n + x) q) in
        h.0 ∙ grind (arith, nat_tests, no)

module _ (ws vs : List ℕ) (n s i j : ℕ) (fits : n ≤ s) (row_in : i < n) (column_in : j < n) where
  pub has_at : has (table n (bit_of ws s)) i j ≡ bit_in ws (i * s + j)
  has_at = has-table n (bit_of ws s) i j ∙ grind (arith, nat_tests)

  pub table_changed : (f : Bool → Bool → Bool) → ((m : ℕ) → bit_in vs m ≡ f (eqb m (i * s + j)) (bit_in ws m))
      → table n (bit_of vs s) ≡ table n (λ a b. f (is_pair i j a b) (has (table n (bit_of ws s)) a b))
  table_changed f h = table-same n (bit_of vs s) (λ a b. f (is_pair i j a b) (has (table n (bit_of ws s)) a b)) (λ a b l k.
      let there : has (table n (bit_of ws s)) a b ≡ bit_of ws s a b = has-table n (bit_of ws s) a b ∙ grind (arith, nat_tests) in
      h (a * s + b) ∙ ap (λ x. f x (bit_of ws s a b)) (row_place s i j a b (omega arith) (omega arith)) ∙ ap (f (is_pair i j a b)) (sym there))

  pub has_raised : ((m : ℕ) → bit_in vs m ≡ (eqb m (i * s + j) || bit_in ws m))
      → (a b : ℕ) → has (table n (bit_of vs s)) a b ≡ (is_pair i j a b || has (table n (bit_of ws s)) a b)
  has_raised h a b =
      ap (λ t. has t a b) (table_changed (λ x y. x || y) h)
      ∙ has-table n (λ a b. is_pair i j a b || has (table n (bit_of ws s)) a b) a b
      ∙ ap (λ x. ltb a n && (ltb b n && (is_pair i j a b || x))) (has-table n (bit_of ws s) a b)
      ∙ within_or (bit_of ws s a b) a b
      ∙ ap (λ x. is_pair i j a b || x) (sym (has-table n (bit_of ws s) a b))
    where
      within_or : (x : Bool) (a b : ℕ) → (ltb a n && (ltb b n && (is_pair i j a b || (ltb a n && (ltb b n && x))))) ≡ (is_pair i j a b || (ltb a n && (ltb b n && x)))
      within_or x a b = grind (arith, nat_tests)

  pub has_lowered : ((m : ℕ) → bit_in vs m ≡ (not (eqb m (i * s + j)) && bit_in ws m))
      → (a b : ℕ) → has (table n (bit_of vs s)) a b ≡ (not (is_pair i j a b) && has (table n (bit_of ws s)) a b)
  has_lowered h a b =
      ap (λ t. has t a b) (table_changed (λ x y. not x && y) h)
      ∙ has-table n (λ a b. not (is_pair i j a b) && has (table n (bit_of ws s)) a b) a b
      ∙ ap (λ x. ltb a n && (ltb b n && (not (is_pair i j a b) && x))) (has-table n (bit_of ws s) a b)
      ∙ within_and (is_pair i j a b) (bit_of ws s a b) a b
      ∙ ap (λ x. not (is_pair i j a b) && x) (sym (has-table n (bit_of ws s) a b))
    where
      within_and : (p x : Bool) (a b : ℕ) → (ltb a n && (ltb b n && (not p && (ltb a n && (ltb b n && x))))) ≡ (not p && (ltb a n && (ltb b n && x)))
      within_and p x a b = grind (arith, nat_tests)

rows-none : (n m : ℕ) (p : ℕ → ℕ → Bool) → ((a b : ℕ) → p a b ≡ false) → rows p n m ≡ []
rows-none n zero p h = refl
rows-none n (suc m) p h = ap (λ x. x ++ row p m n) (rows-none n m p h) ∙ none n
  where
    none : (k : ℕ) → row p m k ≡ []
    none zero = refl
    none (suc k) = ap (λ x. x ++ one p m k) (none k) ∙ ap (λ c. cond c ((m, k) ∷ []) []) (h m k)

pub table_empty : (n s : ℕ) (ws : List ℕ) → ((m : ℕ) → bit_in ws m ≡ false) → table n (bit_of ws s) ≡ empty_table n
table_empty n s ws h = ap (λ (ps : List (ℕ × ℕ)). let t : Bits = record { count = n; pairs = ps } in t) (rows-none n n (bit_of ws s) (λ a b. h (a * s + b)))

pub zeros_no_bit : (k m : ℕ) → bit_in (replicate k 0) m ≡ false
zeros_no_bit k m = ap (λ x. eqb (bit_at x (m % 64)) 1) (zeros k (m / 64)) ∙ ap (λ x. eqb x 1) (bit_at-zero (m % 64))
  where
    zeros : (k i : ℕ) → get_or {A = ℕ} (replicate k 0) i 0 ≡ 0
    zeros zero i = refl
    zeros (suc k) zero = refl
    zeros (suc k) (suc i) = zeros k i

-- no pair from outside is in a table
pub outside : (n : ℕ) (p : ℕ → ℕ → Bool) (a b : ℕ) → (ltb a n && ltb b n) ≡ false → has (table n p) a b ≡ false
outside n p a b e = has-table n p a b ∙ none (ltb a n) (ltb b n) (p a b) e
  where
    none : (x y z : Bool) → (x && y) ≡ false → (x && (y && z)) ≡ false
    none true y z e = ap (λ b. b && z) e
    none false y z e = refl

abbrev single : Bool → ℕ → ℕ → List (ℕ × ℕ)
single c i m = cond c ((i, m) ∷ []) []

abbrev unit : Bool → ℕ
unit b = cond b 1 0

one-length : (c : Bool) (i m : ℕ) → length (single c i m) ≡ unit c
one-length true i m = refl
one-length false i m = refl

row-more : (p : ℕ → ℕ → Bool) (i m : ℕ) → length (row p i (suc m)) ≡ length (row p i m) + unit (p i m)
row-more p i m = length-append (row p i m) (one p i m) ∙ ap (λ x. length (row p i m) + x) (one-length (p i m) i m)

unit_at_most : (b : Bool) → unit b ≤ 1
unit_at_most true = omega arith
unit_at_most false = omega arith

row_at_most : (p : ℕ → ℕ → Bool) (i m : ℕ) → length (row p i m) ≤ m
row_at_most p i zero = omega arith
row_at_most p i (suc m) = omega (arith, row-more p i m, unit_at_most (p i m), row_at_most p i m)

rows_at_most : (p : ℕ → ℕ → Bool) (n m : ℕ) → length (rows p n m) ≤ m * n
rows_at_most p n zero = omega arith
rows_at_most p n (suc m) = omega (arith, length-append (rows p n m) (row p m n), rows_at_most p n m, row_at_most p m n)

-- a table has at most n times n pairs
pub table_at_most : (n : ℕ) (p : ℕ → ℕ → Bool) → length (table n p).pairs ≤ n * n
table_at_most n p = rows_at_most p n n

-- q is p with one pair more
module _ (p q : ℕ → ℕ → Bool) (i j : ℕ) (plus : (a b : ℕ) → q a b ≡ (is_pair i j a b || p a b)) (absent : p i j ≡ false) where
  same_apart : (a b : ℕ) → is_pair i j a b ≡ false → unit (q a b) ≡ unit (p a b)
  same_apart a b e = ap unit (plus a b ∙ ap (λ x. x || p a b) e)

  other_column : (a b : ℕ) → b ≢ j → is_pair i j a b ≡ false
  other_column a b e = grind (arith, nat_tests)

  other_row : (a b : ℕ) → a ≢ i → is_pair i j a b ≡ false
  other_row a b e = grind (arith, nat_tests)

  row_apart : (a m : ℕ) → a ≢ i → length (row q a m) ≡ length (row p a m)
  row_apart a zero e = refl
  row_apart a (suc m) e = omega (arith, row-more p a m, row-more q a m, same_apart a m (other_row a m e), row_apart a m e)

  row_before : (m : ℕ) → m ≤ j → length (row q i m) ≡ length (row p i m)
  row_before zero l = refl
  row_before (suc m) l = omega (arith, row-more p i m, row-more q i m, same_apart i m (other_column i m (omega arith)), row_before m (omega arith))

  unit_here : (m : ℕ) → m ≡ j → unit (q i m) ≡ unit (p i m) + 1
  unit_here m e =
      let here : q i j ≡ true = plus i j ∙ ap (λ x. x || p i j) (let t : is_pair i j i j ≡ true = grind (arith, nat_tests) in t) in
      ap (λ x. unit (q i x)) e ∙ ap unit here ∙ ap (λ x. unit x + 1) (sym absent) ∙ ap (λ x. unit (p i x) + 1) (sym e)

  row_plus : (m : ℕ) → j < m → length (row q i m) ≡ length (row p i m) + 1
  row_plus zero l = absurd (omega arith)
  row_plus (suc m) l =
      ⊎_elim
      (λ (k : j < m). let apart : m ≢ j = omega arith in omega (arith, row-more p i m, row-more q i m, same_apart i m (other_column i m apart), row_plus m k))
      (λ (e : m ≡ j). omega (arith, row-more p i m, row-more q i m, unit_here m e, row_before m (omega arith)))
      (split j m l)
    where
      split : (j m : ℕ) → j < suc m → (j < m) ⊎ (m ≡ j)
      split j m l = grind arith

  rows_before : (n m : ℕ) → m ≤ i → length (rows q n m) ≡ length (rows p n m)
  rows_before n zero l = refl
  rows_before n (suc m) l =
      omega (arith, length-append (rows p n m) (row p m n), length-append (rows q n m) (row q m n), row_apart m n (omega arith), rows_before n m (omega arith))

  rows_plus : (n m : ℕ) → i < m → j < n → length (rows q n m) ≡ length (rows p n m) + 1
  rows_plus n zero l k = absurd (omega arith)
  rows_plus n (suc m) l k =
      ⊎_elim
      (λ (g : i < m). let apart : m ≢ i = omega arith in omega (arith, length-append (rows p n m) (row p m n), length-append (rows q n m) (row q m n), row_apart m n apart, rows_plus n m g k))
      (λ (e : m ≡ i).
      let more : length (row q m n) ≡ length (row p m n) + 1 = subst (λ x. length (row q x n) ≡ length (row p x n) + 1) (sym e) (row_plus n k) in
      omega (arith, length-append (rows p n m) (row p m n), length-append (rows q n m) (row q m n), more, rows_before n m (omega arith)))
      (split i m l)
    where
      split : (i m : ℕ) → i < suc m → (i < m) ⊎ (m ≡ i)
      split i m l = grind arith

  pub table_plus : (n : ℕ) → i < n → j < n → length (table n q).pairs ≡ length (table n p).pairs + 1
  table_plus n l k = rows_plus n n l k

module _ (ws vs : List ℕ) (n s i j : ℕ) (fits : n ≤ s) (row_in : i < n) (column_in : j < n) (h : (m : ℕ) → bit_in vs m ≡ (eqb m (i * s + j) || bit_in ws m)) where
  -- a pair that was in changes nothing
  pub raised_again : bit_in ws (i * s + j) ≡ true → table n (bit_of vs s) ≡ table n (bit_of ws s)
  raised_again there = table-same n (bit_of vs s) (bit_of ws s) (λ a b l k. h (a * s + b) ∙ again (a * s + b) (eqb (a * s + b) (i * s + j)) refl)
    where
      again : (m : ℕ) (b : Bool) → eqb m (i * s + j) ≡ b → (b || bit_in ws m) ≡ bit_in ws m
      again m true e = sym (ap (bit_in ws) (eqb-true m (i * s + j) e) ∙ there)
      again m false e = refl

-- a table by its own test
table_of : (n : ℕ) (p : ℕ → ℕ → Bool) → table n (has (table n p)) ≡ table n p
table_of n p = table-same n (has (table n p)) p (λ a b l k. has-table n p a b ∙ grind (arith, nat_tests))

pub is_table : (n : ℕ) (p : ℕ → ℕ → Bool) → IsTable (table n p)
is_table n p = sym (table_of n p)

module _ (n : ℕ) (p q : ℕ → ℕ → Bool) (i j : ℕ) (row_in : i < n) (column_in : j < n) where
  -- one more pair than a table has
  pub one_more : ((a b : ℕ) → has (table n q) a b ≡ (is_pair i j a b || has (table n p) a b)) → has (table n p) i j ≡ false
      → length (table n q).pairs ≡ length (table n p).pairs + 1
  one_more plus absent =
      ap (λ t. length t.pairs) (sym (table_of n q)) ∙ table_plus (has (table n p)) (has (table n q)) i j plus absent n row_in column_in ∙ ap (λ t. length t.pairs + 1) (table_of n p)

pub within : (n : ℕ) (p : ℕ → ℕ → Bool) (a b : ℕ) → has (table n p) a b ≡ true → (a < n) × (b < n)
within n p a b e = by (ltb a n) (ltb b n) refl refl (sym (has-table n p a b) ∙ e)
  where
    by : (x y : Bool) → ltb a n ≡ x → ltb b n ≡ y → (x && (y && p a b)) ≡ true → (a < n) × (b < n)
    by true true u v g = ((Decides-ltb a n).0 u, (Decides-ltb b n).0 v)
    by true false u v g = absurd (cc)
    by false y u v g = absurd (cc)

module _ (ws vs : List ℕ) (n s i j : ℕ) (fits : n ≤ s) (row_in : i < n) (column_in : j < n) (h : (m : ℕ) → bit_in vs m ≡ (not (eqb m (i * s + j)) && bit_in ws m)) where
  -- one pair less than a table that has it
  pub one_less : has (table n (bit_of ws s)) i j ≡ true → length (table n (bit_of ws s)).pairs ≡ length (table n (bit_of vs s)).pairs + 1
  one_less there = one_more n (bit_of vs s) (bit_of ws s) i j row_in column_in plus gone
    where
      lowered : (a b : ℕ) → has (table n (bit_of vs s)) a b ≡ (not (is_pair i j a b) && has (table n (bit_of ws s)) a b)
      lowered a b = has_lowered ws vs n s i j fits row_in column_in h a b

      again : (a b : ℕ) (x : Bool) → is_pair i j a b ≡ x → has (table n (bit_of ws s)) a b ≡ (x || (not x && has (table n (bit_of ws s)) a b))
      again a b true e =
          let two : (eqb a i && eqb b j) ≡ true = e in
          both (eqb a i) (eqb b j) refl refl two
        where
          both : (x y : Bool) → eqb a i ≡ x → eqb b j ≡ y → (x && y) ≡ true → has (table n (bit_of ws s)) a b ≡ true
          both true true u v t = ap (λ x. has (table n (bit_of ws s)) x b) (eqb-true a i u) ∙ ap (λ x. has (table n (bit_of ws s)) i x) (eqb-true b j v) ∙ there
          both true false u v t = absurd (cc)
          both false y u v t = absurd (cc)
      again a b false e = refl

      plus : (a b : ℕ) → has (table n (bit_of ws s)) a b ≡ (is_pair i j a b || has (table n (bit_of vs s)) a b)
      plus a b = again a b (is_pair i j a b) refl ∙ ap (λ x. is_pair i j a b || x) (sym (lowered a b))

      gone : has (table n (bit_of vs s)) i j ≡ false
      gone = lowered i j ∙ ap (λ x. not x && has (table n (bit_of ws s)) i j) (let t : is_pair i j i j ≡ true = grind (arith, nat_tests) in t)

pub row_within : (ws : List ℕ) (n w p i : ℕ) → n ≤ 64 * w → p < n → i < n → AreWithin ws (p * w) (i * w) (64 * w)
    → (j : ℕ) → has (table n (bit_of ws (64 * w))) p j ≡ true → has (table n (bit_of ws (64 * w))) i j ≡ true
row_within ws n w p i fits p_in i_in rows j there =
    let column_in : j < n = (within n (bit_of ws (64 * w)) p j there).1 in
    has_at ws ws n (64 * w) i j fits i_in column_in
    ∙ ap (λ x. bit_in ws (x + j)) (place i w)
    ∙ rows j (omega arith) (ap (λ x. bit_in ws (x + j)) (sym (place p w)) ∙ sym (has_at ws ws n (64 * w) p j fits p_in column_in) ∙ there)
  where
    place : (a w : ℕ) → a * (64 * w) ≡ 64 * (a * w)
    place a w = grind arith

-- a bit of the k-th word of row i
pub word_bit : (ws : List ℕ) (n w i k r : ℕ) → n ≤ 64 * w → i < n → r < 64 → 64 * k + r < n
    → has_bit (get_or ws (i * w + k) 0) r ≡ has (table n (bit_of ws (64 * w))) i (64 * k + r)
word_bit ws n w i k r fits i_in r_in column_in =
    sym (has_at ws ws n (64 * w) i (64 * k + r) fits i_in column_in ∙ ap (λ x. bit_in ws (x + (64 * k + r))) (place i w) ∙ bit_in_word ws (i * w) k r r_in)
  where
    place : (a w : ℕ) → a * (64 * w) ≡ 64 * (a * w)
    place a w = grind arith

-- all bits of a row are within, where all its pairs are
pub row_all : (ws : List ℕ) (n w p i : ℕ) → n ≤ 64 * w → p < n → i < n → HaveNoneAfter ws n (64 * w)
    → ((j : ℕ) → has (table n (bit_of ws (64 * w))) p j ≡ true → has (table n (bit_of ws (64 * w))) i j ≡ true) → AreWithin ws (p * w) (i * w) (64 * w)
row_all ws n w p i fits p_in i_in none pairs m below there =
    ⊎_elim
    (λ (l : m < n). ap (λ x. bit_in ws (x + m)) (sym (place i w))
    ∙ sym (has_at ws ws n (64 * w) i m fits i_in l)
    ∙ pairs m (has_at ws ws n (64 * w) p m fits p_in l ∙ ap (λ x. bit_in ws (x + m)) (place p w) ∙ there))
    (λ (g : n ≤ m). absurd (cc (sym (ap (λ x. bit_in ws (x + m)) (place p w) ∙ there) ∙ none p m p_in g below)))
    (split m n)
  where
    split : (m n : ℕ) → (m < n) ⊎ (n ≤ m)
    split m n = grind arith

    place : (a w : ℕ) → a * (64 * w) ≡ 64 * (a * w)
    place a w = grind arith

module _ (ws vs : List ℕ) (n s i j : ℕ) (fits : n ≤ s) (column_in : j < n) (none : HaveNoneAfter ws n s) where
  not_here : (a b : ℕ) → n ≤ b → b < s → eqb (a * s + b) (i * s + j) ≡ false
  not_here a b past below = row_place s i j a b (omega arith) below ∙ other
    where
      other : is_pair i j a b ≡ false
      other = grind (arith, nat_tests)

  pub none_raised : ((m : ℕ) → bit_in vs m ≡ (eqb m (i * s + j) || bit_in ws m)) → HaveNoneAfter vs n s
  none_raised h a b a_in past below = h (a * s + b) ∙ ap (λ x. x || bit_in ws (a * s + b)) (not_here a b past below) ∙ none a b a_in past below

  pub none_lowered : ((m : ℕ) → bit_in vs m ≡ (not (eqb m (i * s + j)) && bit_in ws m)) → HaveNoneAfter vs n s
  none_lowered h a b a_in past below = h (a * s + b) ∙ ap (λ x. not x && bit_in ws (a * s + b)) (not_here a b past below) ∙ none a b a_in past below
