-- From the tables that a declaration fills to the order of its pairs, and to the lattice's value.
use Rattle.std.proofs.Common.{◌≡◌, ℕ, ◌+◌, ◌*◌, ◌<◌, ◌≤◌, ◌↔◌, ⊎_elim, Bool, List, length, slice_index, refl, sym, ◌∙◌, arith}
use Rattle.std.proofs.lemmas.Bool.{cases_order}
use Rattle.sp_lattice.specs.Bounds.{IsPartialOrder, IsLeastUpper, IsGreatestLower, IsLattice, EachHasLub}
use Rattle.sp_lattice.specs.Closure.{here, IsOrdered}
use Rattle.sp_lattice.specs.Order.{Order, IsBelow, IsOrderOf}
use Rattle.sp_lattice.specs.Refusal.{IsFirstPair, IsCycle, HasNoLub, HasNoGlb, IsRefused}
use Rattle.sp_lattice.specs.Table.{entry, IsRelated, AreLubs, IsGreatest, IsKept}
use Rattle.sp_lattice.specs.declared.decl.LatticeFault.{LatticeFault}
use Rattle.sp_lattice.specs.declared.decl.LatticeFault.TheVariants.{TooManyLevels, Empty, Cycle, NoLub, NoGlb, Memory}
use Rattle.sp_lattice.proofs.Closing.{Path-append}
use Rattle.sp_lattice.proofs.OrderLaws.{below_entry}
use Rattle.sp_lattice.proofs.Orders.{join_is, meet_is, bottom_is, top_is, above_first, lattice_order}

-- the first pair of one property is the first of another that holds of the same levels
pub first_pair_same : {count : ℕ} {P Q : ℕ → ℕ → Type 0} {x y : ℕ} → ((a b : ℕ) → a < count → b < count → P a b → Q a b)
    → ((a b : ℕ) → a < count → b < count → Q a b → P a b) → IsFirstPair count P x y → IsFirstPair count Q x y
first_pair_same {x = x} {y = y} to from h = record {
  ordered = h.ordered;
  level = h.level;
  there = to x y (omega (arith, h.ordered, h.level)) h.level h.there;
  first = λ a b less level earlier q. h.first a b less level earlier (from a b (omega arith) level q);
}

module _ (count : ℕ) (R S : ℕ → ℕ → Type 0) (same : (a b : ℕ) → a < count → b < count → (R a b ↔ S a b)) where
  pub lub_same : {x y z : ℕ} → x < count → y < count → IsLeastUpper count R x y z → IsLeastUpper count S x y z
  lub_same {x} {y} {z} p q h = record {
    level = h.level;
    left = (same x z p h.level).0 h.left;
    right = (same y z q h.level).0 h.right;
    least = λ w level r s. (same z w h.level level).0 (h.least w level ((same x w p level).1 r) ((same y w q level).1 s));
  }

  -- a greatest lower bound is a least upper bound in the opposite order
  pub glb_from_lub : {x y z : ℕ} → x < count → y < count → IsLeastUpper count (λ a b. R b a) x y z → IsGreatestLower count S x y z
  glb_from_lub {x} {y} {z} p q h = record {
    level = h.level;
    left = (same z x h.level p).0 h.left;
    right = (same z y h.level q).0 h.right;
    greatest = λ w level r s. (same w z level h.level).0 (h.least w level ((same w x level p).1 r) ((same w y level q).1 s));
  }

  pub lub_from_glb : {x y z : ℕ} → x < count → y < count → IsGreatestLower count S x y z → IsLeastUpper count (λ a b. R b a) x y z
  lub_from_glb {x} {y} {z} p q h = record {
    level = h.level;
    left = (same z x h.level p).1 h.left;
    right = (same z y h.level q).1 h.right;
    least = λ w level r s. (same w z level h.level).1 (h.greatest w level ((same w x level p).0 r) ((same w y level q).0 s));
  }

  pub partial_same : IsPartialOrder count R → IsPartialOrder count S
  partial_same h = record {
    reflexive = λ x p. (same x x p p).0 (h.reflexive x p);
    antisymmetric = λ x y p q r s. h.antisymmetric x y p q ((same x y p q).1 r) ((same y x q p).1 s);
    transitive = λ x y z p q l r s. (same x z p l).0 (h.transitive x y z p q l ((same x y p q).1 r) ((same y z q l).1 s));
  }

-- one relation read both ways is a partial order with the other
pub partial_opposite : (count : ℕ) (R : ℕ → ℕ → Type 0) → IsPartialOrder count R → IsPartialOrder count (λ a b. R b a)
partial_opposite count R h = record {
  reflexive = h.reflexive;
  antisymmetric = λ x y p q r s. h.antisymmetric x y p q s r;
  transitive = λ x y z p q l r s. h.transitive z y x l q p s r;
}

pub turn : {A B : Type 0} → (A ↔ B) → (B ↔ A)
turn e = (e.1, e.0)

module _ (count : ℕ) (pairs : List (ℕ × ℕ)) (table : List Bool)
    (order : (x y : ℕ) → x < count → y < count → (IsRelated count table x y ↔ IsOrdered pairs x y))
    (none : (x y : ℕ) → x < y → IsCycle (IsRelated count table) x y → ⊥) where
  -- a closed table without a cycle is a partial order
  pub closed_partial : IsPartialOrder count (IsRelated count table)
  closed_partial = record {
    reflexive = λ x p. (order x x p p).1 here;
    antisymmetric = λ x y p q r s. ⊎_elim (λ e. e) (λ apart. absurd (⊎_elim (λ less. none x y less (r, s)) (λ more. none y x more (s, r)) apart)) (cases_order x y);
    transitive = λ x y z p q l r s. (order x z p l).1 (Path-append ((order x y p q).0 r) ((order y z q l).0 s));
  }

  pub ordered_partial : IsPartialOrder count (IsOrdered pairs)
  ordered_partial = partial_same count (IsRelated count table) (IsOrdered pairs) order closed_partial

  -- the first two levels without a least upper bound
  pub lub_missing : {x y : ℕ} → IsFirstPair count (HasNoLub count (IsRelated count table)) x y → IsFirstPair count (HasNoLub count (IsOrdered pairs)) x y
  lub_missing = first_pair_same
      (λ a b p q lacks z h. lacks z (lub_same count (IsOrdered pairs) (IsRelated count table) (λ c d r s. turn (order c d r s)) p q h))
      (λ a b p q lacks z h. lacks z (lub_same count (IsRelated count table) (IsOrdered pairs) order p q h))

  pub ordered_lubs : EachHasLub count (IsRelated count table) → EachHasLub count (IsOrdered pairs)
  ordered_lubs h x y p q = let found = h x y p q in (found.0, lub_same count (IsRelated count table) (IsOrdered pairs) order p q found.1)

  module _ (opposite : List Bool) (turned : (a b : ℕ) → a < count → b < count → entry count opposite a b ≡ entry count table b a) where
    opposite_same : (a b : ℕ) → a < count → b < count → (IsRelated count table b a ↔ IsRelated count opposite a b)
    opposite_same a b p q = (
      λ r. record { low = p; high = q; there = turned a b p q ∙ r.there },
      λ r. record { low = q; high = p; there = sym (turned a b p q) ∙ r.there },
    )

    pub opposite_partial : IsPartialOrder count (IsRelated count opposite)
    opposite_partial = partial_same count (λ a b. IsRelated count table b a) (IsRelated count opposite) opposite_same
        (partial_opposite count (IsRelated count table) closed_partial)

    -- a least upper bound in the opposite table is a greatest lower bound
    pub glb_of : {S : ℕ → ℕ → Type 0} {x y z : ℕ} → ((a b : ℕ) → a < count → b < count → (IsRelated count table a b ↔ S a b)) → x < count → y < count
        → IsLeastUpper count (IsRelated count opposite) x y z → IsGreatestLower count S x y z
    glb_of {S} same p q h = glb_from_lub count (IsRelated count table) S same p q
        (lub_same count (IsRelated count opposite) (λ a b. IsRelated count table b a) (λ a b r s. turn (opposite_same a b r s)) p q h)

    glb_into : {S : ℕ → ℕ → Type 0} {x y z : ℕ} → ((a b : ℕ) → a < count → b < count → (IsRelated count table a b ↔ S a b)) → x < count → y < count
        → IsGreatestLower count S x y z → IsLeastUpper count (IsRelated count opposite) x y z
    glb_into {S} same p q h = lub_same count (λ a b. IsRelated count table b a) (IsRelated count opposite) opposite_same p q
        (lub_from_glb count (IsRelated count table) S same p q h)

    pub glb_missing : {x y : ℕ} → IsFirstPair count (HasNoLub count (IsRelated count opposite)) x y → IsFirstPair count (HasNoGlb count (IsOrdered pairs)) x y
    glb_missing = first_pair_same
        (λ a b p q lacks z h. lacks z (glb_into order p q h))
        (λ a b p q lacks z h. lacks z (glb_of order p q h))

-- bounds in a table
pub lubs_there : (count : ℕ) (table : List Bool) (bounds : List ℕ) → AreLubs count table bounds → EachHasLub count (IsRelated count table)
lubs_there count table bounds h x y p q = (slice_index bounds (x * count + y), h.each x y p q)

-- a table with a least upper bound of each two levels has a level above each other
pub greatest_there : (count : ℕ) (table : List Bool) → IsPartialOrder count (IsRelated count table) → 0 < count → EachHasLub count (IsRelated count table)
    → (z : ℕ) × IsGreatest count table z
greatest_there count table partial some lubs =
    let top = above_first count (IsRelated count table) partial lubs count some (omega arith) in
    (top.0, record { level = top.1; above = top.2 })

-- a lattice of 1 to 256 levels is refused for want of memory alone
pub only_memory : (count : ℕ) (pairs : List (ℕ × ℕ)) (fault : LatticeFault) → IsRefused count pairs fault → 1 ≤ count → count ≤ 256
    → IsLattice count (IsOrdered pairs) → fault ≡ Memory
only_memory count pairs (TooManyLevels n) h some few lattice = absurd (omega (arith, h.0))
only_memory count pairs Empty h some few lattice = absurd (omega (arith, h))
only_memory count pairs (Cycle x y) h some few lattice =
    let level : x < count = omega (arith, h.1.ordered, h.1.level) in
    let same : x ≡ y = lattice.partial.antisymmetric x y level h.1.level h.1.there.0 h.1.there.1 in
    absurd (omega (arith, h.1.ordered))
only_memory count pairs (NoLub x y) h some few lattice =
    let found = lattice.lubs x y (omega (arith, h.2.ordered, h.2.level)) h.2.level in
    absurd (h.2.there found.0 found.1)
only_memory count pairs (NoGlb x y) h some few lattice =
    let found = lattice.glbs x y (omega (arith, h.3.ordered, h.3.level)) h.3.level in
    absurd (h.3.there found.0 found.1)
only_memory count pairs Memory h some few lattice = refl

pub related_below : (o : Order) (x y : ℕ) → x < o.count → y < o.count → (IsRelated o.count o.table x y ↔ IsBelow o x y)
related_below o x y p q = (
  λ r. below_entry o x y p q ∙ r.there,
  λ e. record { low = p; high = q; there = sym (below_entry o x y p q) ∙ e },
)

-- the value of a table that has the order of the pairs
pub order_value : (count : ℕ) (pairs : List (ℕ × ℕ)) (table : List Bool)
    → ((x y : ℕ) → x < count → y < count → (IsRelated count table x y ↔ IsOrdered pairs x y))
    → IsOrderOf count (IsOrdered pairs) (record { count = count; table = table })
order_value count pairs table order =
    let o : Order = record { count = count; table = table } in
    record {
      count_same = refl;
      below = λ x y p q r. (related_below o x y p q).0 ((order x y p q).1 r);
      only_below = λ x y p q e. (order x y p q).0 ((related_below o x y p q).1 e);
    }

module _ (o : Order) (pairs : List (ℕ × ℕ)) (opposite : List Bool) (lubs glbs : List ℕ) (least greatest : ℕ)
    (some : 0 < o.count) (few : o.count ≤ 256) (square : length o.table ≡ o.count * o.count)
    (order : (x y : ℕ) → x < o.count → y < o.count → (IsRelated o.count o.table x y ↔ IsOrdered pairs x y))
    (none : (x y : ℕ) → x < y → IsCycle (IsRelated o.count o.table) x y → ⊥)
    (turned : (a b : ℕ) → a < o.count → b < o.count → entry o.count opposite a b ≡ entry o.count o.table b a)
    (are_lubs : AreLubs o.count o.table lubs) (are_glbs : AreLubs o.count opposite glbs)
    (is_least : IsGreatest o.count opposite least) (is_greatest : IsGreatest o.count o.table greatest) where
  partial_value : IsPartialOrder o.count (IsBelow o)
  partial_value = partial_same o.count (IsRelated o.count o.table) (IsBelow o) (related_below o) (closed_partial o.count pairs o.table order none)

  lub_value : (x y : ℕ) → x < o.count → y < o.count → IsLeastUpper o.count (IsBelow o) x y (slice_index lubs (x * o.count + y))
  lub_value x y p q = lub_same o.count (IsRelated o.count o.table) (IsBelow o) (related_below o) p q (are_lubs.each x y p q)

  glb_value : (x y : ℕ) → x < o.count → y < o.count → IsGreatestLower o.count (IsBelow o) x y (slice_index glbs (x * o.count + y))
  glb_value x y p q = glb_of o.count pairs o.table order none opposite turned (related_below o) p q (are_glbs.each x y p q)

  least_value : (w : ℕ) → w < o.count → IsBelow o least w
  least_value w p = below_entry o least w is_least.level p ∙ sym (turned w least p is_least.level) ∙ (is_least.above w p).there

  greatest_value : (w : ℕ) → w < o.count → IsBelow o w greatest
  greatest_value w p = below_entry o w greatest p is_greatest.level ∙ (is_greatest.above w p).there

  -- the tables and ends that a lattice keeps
  pub kept_value : IsKept o lubs glbs least greatest
  kept_value = record {
    lattice = lattice_order o some few square partial_value (λ x y p q. (slice_index lubs (x * o.count + y), lub_value x y p q)) (λ x y p q. (slice_index glbs (x * o.count + y), glb_value x y p q))
        least greatest is_least.level least_value is_greatest.level greatest_value;
    lubs_whole = are_lubs.whole;
    glbs_whole = are_glbs.whole;
    joins = λ x y p q. sym (join_is o partial_value x y (slice_index lubs (x * o.count + y)) (lub_value x y p q));
    meets = λ x y p q. sym (meet_is o partial_value x y (slice_index glbs (x * o.count + y)) (glb_value x y p q));
    bottom = sym (bottom_is o partial_value least is_least.level least_value);
    top = sym (top_is o partial_value greatest is_greatest.level greatest_value);
  }
