-- What a write of one entry changes in a table.
use Rattle.std.proofs.Common.{◌≡◌, ◌≢◌, ℕ, ◌+◌, ◌*◌, ◌<◌, ◌&&◌, ◌||◌, ⊎_elim, Bool, true, false, eqb, List, length, get_or, set, ap, ◌∙◌, arith, get_or-set_other, get_or-set_same}
use Rattle.std.proofs.lemmas.Bool.Decides.{nat_tests, eqb_tells}
use Rattle.std.proofs.lemmas.Nat.{same_from_place, mul-add-lt}
use Rattle.sp_lattice.specs.Table.{entry}

-- writing `true` at row x and column y
pub entry-set : (count : ℕ) (table : List Bool) (x y a b : ℕ) → length table ≡ count * count → x < count → y < count → b < count
    → entry count (set table (x * count + y) true) a b ≡ (((eqb a x) && (eqb b y)) || entry count table a b)
entry-set count table x y a b square row column inside = ⊎_elim same apart (eqb_tells (a * count + b) (x * count + y))
  where
    within : x * count + y < length table
    within = omega (arith, square, mul-add-lt x count y count row column)

    same : (eqb (a * count + b) (x * count + y) ≡ true) × (a * count + b ≡ x * count + y) → entry count (set table (x * count + y) true) a b ≡ (((eqb a x) && (eqb b y)) || entry count table a b)
    same h =
        let p : (a ≡ x) × (b ≡ y) = same_from_place a b x y count inside column h.1 in
        let read : get_or (set table (x * count + y) true) (a * count + b) false ≡ true = rw h.1 (get_or-set_same table (x * count + y) true false within) in
        grind (arith, nat_tests)

    apart : (eqb (a * count + b) (x * count + y) ≡ false) × (a * count + b ≢ x * count + y) → entry count (set table (x * count + y) true) a b ≡ (((eqb a x) && (eqb b y)) || entry count table a b)
    apart h =
        let no : (a ≡ x) → (b ≡ y) → ⊥ = λ p q. h.1 (ap (λ n. n * count + b) p ∙ ap (λ n. x * count + n) q) in
        let read : get_or (set table (x * count + y) true) (a * count + b) false ≡ get_or table (a * count + b) false = get_or-set_other table (x * count + y) (a * count + b) true false h.1 in
        grind (arith, nat_tests, no)
