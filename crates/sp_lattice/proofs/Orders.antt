-- Orders as values: their tests as relations, and that the bounds and ends found by these are the bounds and ends.
use Rattle.std.proofs.Common.{◌≡◌, ℕ, zero, suc, ◌+◌, ◌*◌, ◌<◌, ◌≤◌, ◌&&◌, ◌||◌, not, ⊎_elim, Bool, true, false, Some, cond, length, unwrap_or, refl, sym, ap, ◌∙◌, subst, arith}
use Rattle.std.specs.List.{find, list_all, range_with_len}
use Rattle.std.proofs.lemmas.Bool.{cases_eq, cases_lt, and_parts, and_from, false≢true}
use Rattle.sp_lattice.specs.Bounds.{IsPartialOrder, IsLeastUpper, IsGreatestLower, EachHasLub, EachHasGlb}
use Rattle.sp_lattice.specs.Order.{Order, is_below, IsBelow, levels, is_least_upper, is_greatest_lower, join, meet, bottom_level, top_level, IsLatticeOrder}
use Rattle.sp_lattice.proofs.Uppers.{lub_unique}

-- the first number that passes, where one alone does
found_from : (p : ℕ → Bool) (n a z : ℕ) → a ≤ z → z < a + n → p z ≡ true → ((w : ℕ) → a ≤ w → w < a + n → p w ≡ true → w ≡ z)
    → unwrap_or (find p (range_with_len a n)) 0 ≡ z
found_from p zero a z low high here only = absurd (omega arith)
found_from p (suc n) a z low high here only =
    by (p a) refl (λ later. found_from p n (a + 1) z later (omega arith) here (λ w from to. only w (omega arith) (omega arith)))
  where
    by : (b : Bool) → p a ≡ b → (a + 1 ≤ z → unwrap_or (find p (range_with_len (a + 1) n)) 0 ≡ z)
        → unwrap_or (cond b (Some a) (find p (range_with_len (a + 1) n))) 0 ≡ z
    by true e rest = only a (omega arith) (omega arith) e
    by false e rest =
        let apart : a ≡ z → ⊥ = λ same. false≢true (sym e ∙ ap p same ∙ here) in
        rest (grind (arith, apart))

pub found : (p : ℕ → Bool) (n z : ℕ) → z < n → p z ≡ true → ((w : ℕ) → w < n → p w ≡ true → w ≡ z) → unwrap_or (find p (range_with_len 0 n)) 0 ≡ z
found p n z level here only = found_from p n 0 z (omega arith) (omega arith) here (λ w _ high. only w (omega arith))

all_from : (p : ℕ → Bool) (n a : ℕ) → ((w : ℕ) → a ≤ w → w < a + n → p w ≡ true) → list_all p (range_with_len a n) ≡ true
all_from p zero a h = refl
all_from p (suc n) a h = and_from _ _ (h a (omega arith) (omega arith)) (all_from p n (a + 1) (λ w low high. h w (omega arith) (omega arith)))

each_from : (p : ℕ → Bool) (n a : ℕ) → list_all p (range_with_len a n) ≡ true → (w : ℕ) → a ≤ w → w < a + n → p w ≡ true
each_from p zero a e w low high = absurd (omega arith)
each_from p (suc n) a e w low high =
    let later : (a ≡ w → ⊥) → p w ≡ true = λ apart. each_from p n (a + 1) (and_parts _ _ e).1 w (grind (arith, apart)) (omega arith) in
    ⊎_elim (λ same. subst (λ m. p m ≡ true) same (and_parts _ _ e).0) later (cases_eq a w)

pub all_levels : (p : ℕ → Bool) (n : ℕ) → ((w : ℕ) → w < n → p w ≡ true) → list_all p (range_with_len 0 n) ≡ true
all_levels p n h = all_from p n 0 (λ w _ high. h w (omega arith))

pub each_level : (p : ℕ → Bool) (n : ℕ) → list_all p (range_with_len 0 n) ≡ true → (w : ℕ) → w < n → p w ≡ true
each_level p n e w level = each_from p n 0 e w (omega arith) (omega arith)

implied : (a b c : Bool) → (a ≡ true → b ≡ true → c ≡ true) → (not (a && b) || c) ≡ true
implied true true c h = h refl refl
implied true false c h = refl
implied false b c h = refl

implies : (a b c : Bool) → (not (a && b) || c) ≡ true → a ≡ true → b ≡ true → c ≡ true
implies true true c e p q = e
implies true false c e p q = absurd (false≢true q)
implies false b c e p q = absurd (false≢true p)

module _ (o : Order) (x y : ℕ) where
  pub least_upper_from : (z : ℕ) → IsLeastUpper o.count (IsBelow o) x y z → is_least_upper o x y z ≡ true
  least_upper_from z h =
      and_from _ _ (and_from _ _ h.left h.right) (all_levels _ o.count (λ w level. implied (is_below o x w) (is_below o y w) (is_below o z w) (h.least w level)))

  pub least_upper_of : (z : ℕ) → z < o.count → is_least_upper o x y z ≡ true → IsLeastUpper o.count (IsBelow o) x y z
  least_upper_of z level e =
      let parts = and_parts _ _ e in
      let upper = and_parts _ _ parts.0 in
      record {
        level = level;
        left = upper.0;
        right = upper.1;
        least = λ w inside. implies (is_below o x w) (is_below o y w) (is_below o z w) (each_level _ o.count parts.1 w inside);
      }

  pub greatest_lower_from : (z : ℕ) → IsGreatestLower o.count (IsBelow o) x y z → is_greatest_lower o x y z ≡ true
  greatest_lower_from z h =
      and_from _ _ (and_from _ _ h.left h.right) (all_levels _ o.count (λ w level. implied (is_below o w x) (is_below o w y) (is_below o w z) (h.greatest w level)))

  pub greatest_lower_of : (z : ℕ) → z < o.count → is_greatest_lower o x y z ≡ true → IsGreatestLower o.count (IsBelow o) x y z
  greatest_lower_of z level e =
      let parts = and_parts _ _ e in
      let lower = and_parts _ _ parts.0 in
      record {
        level = level;
        left = lower.0;
        right = lower.1;
        greatest = λ w inside. implies (is_below o w x) (is_below o w y) (is_below o w z) (each_level _ o.count parts.1 w inside);
      }

module _ (o : Order) (partial : IsPartialOrder o.count (IsBelow o)) where
  -- a least upper bound is the join
  pub join_is : (x y z : ℕ) → IsLeastUpper o.count (IsBelow o) x y z → join o x y ≡ z
  unfolding join
  join_is x y z h =
      found (is_least_upper o x y) o.count z h.level (least_upper_from o x y z h) (λ w level e. lub_unique partial (least_upper_of o x y w level e) h)

  glb_unique : {x y z w : ℕ} → IsGreatestLower o.count (IsBelow o) x y z → IsGreatestLower o.count (IsBelow o) x y w → z ≡ w
  glb_unique {z = z} {w = w} p q = partial.antisymmetric z w p.level q.level (q.greatest z p.level p.left p.right) (p.greatest w q.level q.left q.right)

  -- a greatest lower bound is the meet
  pub meet_is : (x y z : ℕ) → IsGreatestLower o.count (IsBelow o) x y z → meet o x y ≡ z
  unfolding meet
  meet_is x y z h =
      found (is_greatest_lower o x y) o.count z h.level (greatest_lower_from o x y z h) (λ w level e. glb_unique (greatest_lower_of o x y w level e) h)

  pub bottom_is : (z : ℕ) → z < o.count → ((w : ℕ) → w < o.count → IsBelow o z w) → bottom_level o ≡ z
  unfolding bottom_level
  bottom_is z level h =
      found (λ v. list_all (λ w. is_below o v w) (levels o)) o.count z level (all_levels (λ w. is_below o z w) o.count h)
      (λ w inside e. partial.antisymmetric w z inside level (each_level (λ v. is_below o w v) o.count e z level) (h w inside))

  pub top_is : (z : ℕ) → z < o.count → ((w : ℕ) → w < o.count → IsBelow o w z) → top_level o ≡ z
  unfolding top_level
  top_is z level h =
      found (λ v. list_all (λ w. is_below o w v) (levels o)) o.count z level (all_levels (λ w. is_below o w z) o.count h)
      (λ w inside e. partial.antisymmetric w z inside level (h w inside) (each_level (λ v. is_below o v w) o.count e z level))

-- in a lattice some level is above all below k, and so in the end above all
pub above_first : (count : ℕ) (R : ℕ → ℕ → Type 0) → IsPartialOrder count R → EachHasLub count R → (k : ℕ) → 0 < count → k ≤ count
    → (z : ℕ) × (z < count) × ((w : ℕ) → w < k → R w z)
above_first count R partial lubs zero some few = (0, some, λ w below. absurd (omega arith))
above_first count R partial lubs (suc k) some few = more (above_first count R partial lubs k some (omega arith))
  where
    more : (z : ℕ) × (z < count) × ((w : ℕ) → w < k → R w z) → (z : ℕ) × (z < count) × ((w : ℕ) → w < suc k → R w z)
    more before = (top.0, top.1.level, each)
      where
        top : (z : ℕ) × IsLeastUpper count R before.0 k z
        top = lubs before.0 k before.1 (omega arith)

        each : (w : ℕ) → w < suc k → R w top.0
        each w below = ⊎_elim
            (λ less. partial.transitive w before.0 top.0 (omega arith) before.1 top.1.level (before.2 w less) top.1.left)
            (λ past. let same : k ≡ w = omega arith in subst (λ n. R n top.0) same top.1.right)
            (cases_lt w k)

-- the order is a lattice's where it is a partial order with these bounds and ends
pub lattice_order : (o : Order) → 0 < o.count → o.count ≤ 256 → length o.table ≡ o.count * o.count → IsPartialOrder o.count (IsBelow o) → EachHasLub o.count (IsBelow o) → EachHasGlb o.count (IsBelow o)
    → (least greatest : ℕ) → least < o.count → ((w : ℕ) → w < o.count → IsBelow o least w) → greatest < o.count → ((w : ℕ) → w < o.count → IsBelow o w greatest)
    → IsLatticeOrder o
lattice_order o some few square partial lubs glbs least greatest least_level least_is greatest_level greatest_is = record {
  some = some;
  few = few;
  square = square;
  partial = partial;
  lubs = λ x y p q. let h = lubs x y p q in subst (λ z. IsLeastUpper o.count (IsBelow o) x y z) (sym (join_is o partial x y h.0 h.1)) h.1;
  glbs = λ x y p q. let h = glbs x y p q in subst (λ z. IsGreatestLower o.count (IsBelow o) x y z) (sym (meet_is o partial x y h.0 h.1)) h.1;
  bottom_is_level = rw (bottom_is o partial least least_level least_is) least_level;
  bottom_is_least = λ x p. rw (bottom_is o partial least least_level least_is) (least_is x p);
  top_is_level = rw (top_is o partial greatest greatest_level greatest_is) greatest_level;
  top_is_greatest = λ x p. rw (top_is o partial greatest greatest_level greatest_is) (greatest_is x p);
}
