-- That the product of a chain and the sets of some categories is a lattice, and that its pairs declare it.
use Rattle.std.proofs.Common.{◌≡◌, ℕ, ◌+◌, ◌*◌, ◌/◌, ◌%◌, ◌^◌, ◌<◌, ◌≤◌, ◌↔◌, ⊎_elim, min, max, List, refl, sym, ap, ◌∙◌, arith, bit_and, bit_or}
use Rattle.std.specs.List.{Contains}
use Rattle.std.specs.Int.{bit_at}
use Rattle.std.proofs.Math.Nat.{mul-le-mul_right}
use Rattle.std.proofs.lemmas.Bool.{cases_lt, cases_eq}
use Rattle.std.proofs.lemmas.Nat.{pow_pos, pow_below, div-mul-add, mod-mul-add, div-add-mod', div_below, mod_below, mul-add-lt, or_lt, and_le_l}
use Rattle.std.proofs.lemmas.Nat.Bits.{bit_at_and, bit_at_or, bit_at-lt, same_from_bits}
use Rattle.sp_lattice.specs.Bounds.{IsLeastUpper, IsGreatestLower, IsLattice}
use Rattle.sp_lattice.specs.Closure.{Path, here, step, IsDeclared, IsOrdered}
use Rattle.sp_lattice.specs.Product.{IsSubset, IsProductBelow, level_number, position_of, set_of}
use Rattle.sp_lattice.proofs.Declared.{lub_same, glb_from_lub, lub_from_glb, partial_same}

pub subset_from_and : (s t : ℕ) → bit_and s t ≡ s → IsSubset s t
subset_from_and s t e j inside =
    let both : min (bit_at s j) (bit_at t j) ≡ bit_at s j = sym (bit_at_and s t j) ∙ ap (λ n. bit_at n j) e in
    omega (arith, both, inside, bit_at-lt t j)

pub and_from_subset : (s t : ℕ) → IsSubset s t → bit_and s t ≡ s
and_from_subset s t h = same_from_bits (bit_and s t) s (λ i. bit_at_and s t i ∙ ⊎_elim (one i) (other i) (cases_eq (bit_at s i) 1))
  where
    one : (i : ℕ) → bit_at s i ≡ 1 → min (bit_at s i) (bit_at t i) ≡ bit_at s i
    one i e = omega (arith, e, h i e)

    other : (i : ℕ) → (bit_at s i ≡ 1 → ⊥) → min (bit_at s i) (bit_at t i) ≡ bit_at s i
    other i no_bit =
        let none : bit_at s i ≡ 0 = grind (arith, no_bit, bit_at-lt s i) in
        omega (arith, none)

pub subset_twice : (s t u : ℕ) → IsSubset s t → IsSubset t u → IsSubset s u
subset_twice s t u p q j r = q j (p j r)

subsets_same : (s t : ℕ) → IsSubset s t → IsSubset t s → s ≡ t
subsets_same s t p q = same_from_bits s t (λ i. grind (arith, p i, q i, bit_at-lt s i, bit_at-lt t i))

subset_or_left : (s t : ℕ) → IsSubset s (bit_or s t)
subset_or_left s t j e = omega (arith, bit_at_or s t j, e, bit_at-lt t j)

subset_or_right : (s t : ℕ) → IsSubset t (bit_or s t)
subset_or_right s t j e = omega (arith, bit_at_or s t j, e, bit_at-lt s j)

or_subset : (s t u : ℕ) → IsSubset s u → IsSubset t u → IsSubset (bit_or s t) u
or_subset s t u p q j e = ⊎_elim (p j) other (cases_eq (bit_at s j) 1)
  where
    other : (bit_at s j ≡ 1 → ⊥) → bit_at u j ≡ 1
    other no_bit =
        let none : bit_at s j ≡ 0 = grind (arith, no_bit, bit_at-lt s j) in
        q j (omega (arith, bit_at_or s t j, e, none))

and_subset_left : (s t : ℕ) → IsSubset (bit_and s t) s
and_subset_left s t j e = omega (arith, bit_at_and s t j, e, bit_at-lt s j)

and_subset_right : (s t : ℕ) → IsSubset (bit_and s t) t
and_subset_right s t j e = omega (arith, bit_at_and s t j, e, bit_at-lt t j)

subset_and : (s t u : ℕ) → IsSubset u s → IsSubset u t → IsSubset u (bit_and s t)
subset_and s t u p q j e = omega (arith, bit_at_and s t j, p j e, q j e)

pub product_reflexive : (k x : ℕ) → IsProductBelow k x x
product_reflexive k x = record { chain = omega arith; sets = λ j e. e }

pub product_transitive : (k x y z : ℕ) → IsProductBelow k x y → IsProductBelow k y z → IsProductBelow k x z
product_transitive k x y z p q = record {
  chain = omega (arith, p.chain, q.chain);
  sets = subset_twice (set_of k x) (set_of k y) (set_of k z) p.sets q.sets;
}

product_antisymmetric : (k x y : ℕ) → IsProductBelow k x y → IsProductBelow k y x → x ≡ y
product_antisymmetric k x y p q =
    let position : x / 2 ^ k ≡ y / 2 ^ k = omega (arith, p.chain, q.chain) in
    let set : x % 2 ^ k ≡ y % 2 ^ k = subsets_same (x % 2 ^ k) (y % 2 ^ k) p.sets q.sets in
    sym (div-add-mod' x (2 ^ k)) ∙ ap (λ n. n * 2 ^ k + x % 2 ^ k) position ∙ ap (λ n. y / 2 ^ k * 2 ^ k + n) set ∙ div-add-mod' y (2 ^ k)

-- a level made of a position and a set has these
module _ (k position set : ℕ) (inside : set < 2 ^ k) where
  pub made_position : position_of k (level_number k position set) ≡ position
  made_position = div-mul-add position (2 ^ k) set inside

  pub made_set : set_of k (level_number k position set) ≡ set
  made_set = mod-mul-add position (2 ^ k) set inside

  above_made : (x : ℕ) → position_of k x ≤ position → IsSubset (set_of k x) set → IsProductBelow k x (level_number k position set)
  above_made x p q = record { chain = rw made_position p; sets = rw made_set q }

  below_made : (x : ℕ) → position ≤ position_of k x → IsSubset set (set_of k x) → IsProductBelow k (level_number k position set) x
  below_made x p q = record { chain = rw made_position p; sets = rw made_set q }

module _ (k chain x y : ℕ) (x_level : x < chain * 2 ^ k) (y_level : y < chain * 2 ^ k) where
  set_below : (z : ℕ) → set_of k z < 2 ^ k
  set_below z = mod_below z (2 ^ k) (pow_pos k)

  position_below : (z : ℕ) → z < chain * 2 ^ k → position_of k z < chain
  position_below z level = div_below z (2 ^ k) chain (pow_pos k) level

  number_below : (position set : ℕ) → position < chain → set < 2 ^ k → level_number k position set < chain * 2 ^ k
  number_below position set p q = omega (arith, mul-add-lt position (2 ^ k) set chain p q)

  high : ℕ
  high = max (position_of k x) (position_of k y)

  low : ℕ
  low = min (position_of k x) (position_of k y)

  union : ℕ
  union = bit_or (set_of k x) (set_of k y)

  common : ℕ
  common = bit_and (set_of k x) (set_of k y)

  union_inside : union < 2 ^ k
  unfolding union
  union_inside = or_lt k (set_of k x) (set_of k y) (set_below x) (set_below y)

  common_inside : common < 2 ^ k
  unfolding common
  common_inside = omega (arith, and_le_l (set_of k x) (set_of k y), set_below x)

  pub product_lub : (z : ℕ) × IsLeastUpper (chain * 2 ^ k) (IsProductBelow k) x y z
  unfolding high union
  product_lub = (
    level_number k high union,
    record {
      level = number_below high union (omega (arith, position_below x x_level, position_below y y_level)) union_inside;
      left = above_made k high union union_inside x (omega arith) (subset_or_left (set_of k x) (set_of k y));
      right = above_made k high union union_inside y (omega arith) (subset_or_right (set_of k x) (set_of k y));
      least = λ w level p q. below_made k high union union_inside w (omega (arith, p.chain, q.chain)) (or_subset (set_of k x) (set_of k y) (set_of k w) p.sets q.sets);
    },
  )

  pub product_glb : (z : ℕ) × IsGreatestLower (chain * 2 ^ k) (IsProductBelow k) x y z
  unfolding low common
  product_glb = (
    level_number k low common,
    record {
      level = number_below low common (omega (arith, position_below x x_level)) common_inside;
      left = below_made k low common common_inside x (omega arith) (and_subset_left (set_of k x) (set_of k y));
      right = below_made k low common common_inside y (omega arith) (and_subset_right (set_of k x) (set_of k y));
      greatest = λ w level p q. above_made k low common common_inside w (omega (arith, p.chain, q.chain)) (subset_and (set_of k x) (set_of k y) (set_of k w) p.sets q.sets);
    },
  )

pub product_lattice : (chain k : ℕ) → IsLattice (chain * 2 ^ k) (IsProductBelow k)
product_lattice chain k = record {
  partial = record {
    reflexive = λ x _. product_reflexive k x;
    antisymmetric = λ x y _ _. product_antisymmetric k x y;
    transitive = λ x y z _ _ _. product_transitive k x y z;
  };
  lubs = product_lub k chain;
  glbs = product_glb k chain;
}

-- a lattice under a relation that is the same on its levels
lattice_same : (count : ℕ) (R S : ℕ → ℕ → Type 0) → ((a b : ℕ) → a < count → b < count → (R a b ↔ S a b)) → IsLattice count R → IsLattice count S
lattice_same count R S same h = record {
  partial = partial_same count R S same h.partial;
  lubs = λ x y p q. let found = h.lubs x y p q in (found.0, lub_same count R S same p q found.1);
  glbs = λ x y p q. let found = h.glbs x y p q in (found.0, glb_from_lub count R S same p q (lub_from_glb count R R (λ a b _ _. (λ r. r, λ r. r)) p q found.1));
}

module _ (k count : ℕ) (pairs : List (ℕ × ℕ))
    (sound : (x y : ℕ) → Contains pairs (x, y) → IsProductBelow k x y)
    (whole : (x y : ℕ) → x < count → y < count → IsProductBelow k x y → Contains pairs (x, y)) where
  ordered_product : {x y : ℕ} → Path (IsDeclared pairs) x y → IsProductBelow k x y
  ordered_product {x} here = product_reflexive k x
  ordered_product {x = x} {y = z} (step {y = y} r p) = product_transitive k x y z (sound x y r) (ordered_product p)

  pub pairs_order : (x y : ℕ) → x < count → y < count → (IsOrdered pairs x y ↔ IsProductBelow k x y)
  pairs_order x y p q = (ordered_product, λ r. step (whole x y p q r) here)

  pub pairs_lattice : (chain : ℕ) → count ≡ chain * 2 ^ k → IsLattice count (IsOrdered pairs)
  pairs_lattice chain e =
      lattice_same count (IsProductBelow k) (IsOrdered pairs) (λ a b p q. ((pairs_order a b p q).1, (pairs_order a b p q).0)) (rw e (product_lattice chain k))

-- the number of levels, computed where it may exceed every `u32`
pub saturated : (chain power most : ℕ) → 1 ≤ chain → min (chain * min power most) most ≡ min (chain * power) most
saturated chain power most some = ⊎_elim fits exceeds (cases_lt most power)
  where
    fits : most < power → min (chain * min power most) most ≡ min (chain * power) most
    fits over =
        let least : min power most ≡ most = omega arith in
        rw least (omega (arith, mul-le-mul_right {m = 1} {n = chain} most some, mul-le-mul_right {m = 1} {n = chain} power some))

    exceeds : power ≤ most → min (chain * min power most) most ≡ min (chain * power) most
    exceeds within = let least : min power most ≡ power = omega arith in rw least refl

pub few_categories : (chain k : ℕ) → 1 ≤ chain → chain * 2 ^ k ≤ 256 → k ≤ 8
few_categories chain k some few = ⊎_elim many (λ p. p) (cases_lt 8 k)
  where
    many : 8 < k → k ≤ 8
    many over =
        let most : 2 ^ 8 < 2 ^ k = pow_below 8 k over in
        let power : 256 < 2 ^ k = most in
        absurd (omega (arith, mul-le-mul_right {m = 1} {n = chain} (2 ^ k) some, power, few))
