-- Upper bounds in a table: which level can be the least one, and that no other can.
use Rattle.std.proofs.Common.{◌≡◌, ℕ, ◌+◌, ◌<◌, ◌≤◌, ◌↔◌, ⊎_elim, inl, Bool, true, false, List, Option, Some, None, IfSome, MatchOption, refl, sym, ap, ◌∙◌, subst, arith}
use Rattle.std.specs.Bool.{then_some}
use Rattle.std.proofs.lemmas.Bool.{cases_lt, cases_order, and_parts, and_from, false≢true}
use Rattle.sp_lattice.specs.Bounds.{IsPartialOrder, IsLeastUpper}
use Rattle.sp_lattice.specs.Refusal.{HasNoLub, IsEarlier}
use Rattle.sp_lattice.specs.Table.{entry, IsRelated, IsGreatest, is_lower_upper}

-- two levels have one least upper bound at most
pub lub_unique : {count : ℕ} {R : ℕ → ℕ → Type 0} {x y z w : ℕ} → IsPartialOrder count R → IsLeastUpper count R x y z → IsLeastUpper count R x y w → z ≡ w
lub_unique {z = z} {w = w} partial p q = partial.antisymmetric z w p.level q.level (p.least w q.level q.left q.right) (q.least z p.level p.left p.right)

module _ (count : ℕ) (table : List Bool) (partial : IsPartialOrder count (IsRelated count table)) (x y z : ℕ)
    (x_level : x < count) (y_level : y < count) (level : z < count) where
  abbrev Lub : ℕ → Type 0
  Lub w = IsLeastUpper count (IsRelated count table) x y w

  abbrev Upper : Option ℕ → Type 0
  Upper lowest = IfSome lowest (λ w. IsRelated count table x w × IsRelated count table y w)

  pub upper_taken : (lowest : Option ℕ) → is_lower_upper count table x y z lowest ≡ true → IsRelated count table x z × IsRelated count table y z
  upper_taken None e =
      let both = and_parts _ _ e in
      (record { low = x_level; high = level; there = both.0 }, record { low = y_level; high = level; there = both.1 })
  upper_taken (Some bound) e =
      let both = and_parts _ _ e in
      let rest = and_parts _ _ both.1 in
      (record { low = x_level; high = level; there = both.0 }, record { low = y_level; high = level; there = rest.0 })

  below_taken : (w : ℕ) → is_lower_upper count table x y z (Some w) ≡ true → entry count table z w ≡ true
  below_taken w e = (and_parts _ _ (and_parts _ _ e).1).1

  -- a lower level takes the place of the lowest so far
  pub only_taken : (lowest : Option ℕ) → is_lower_upper count table x y z lowest ≡ true
      → ((w : ℕ) → w < z → Lub w → lowest ≡ Some w) → (w : ℕ) → w < z + 1 → Lub w → Some z ≡ Some w
  only_taken lowest e only w below lub = ⊎_elim earlier now (cases_lt w z)
    where
      upper : IsRelated count table x z × IsRelated count table y z
      upper = upper_taken lowest e

      earlier : w < z → Some z ≡ Some w
      earlier less =
          let is_lowest = only w less lub in
          let lower : entry count table z w ≡ true = below_taken w (subst (λ o. is_lower_upper count table x y z o ≡ true) is_lowest e) in
          ap Some (partial.antisymmetric z w level lub.level (record { low = level; high = lub.level; there = lower }) (lub.least z level upper.0 upper.1))

      now : z ≤ w → Some z ≡ Some w
      now more = let same : z ≡ w = omega arith in ap Some same

  lub_taken : (lowest : Option ℕ) → Upper lowest → Lub z → is_lower_upper count table x y z lowest ≡ true
  lub_taken None upper lub = and_from _ _ lub.left.there lub.right.there
  lub_taken (Some w) upper lub =
      and_from _ _ lub.left.there (and_from _ _ lub.right.there (lub.least w upper.0.high upper.0 upper.1).there)

  -- a level that isn't lower leaves the lowest so far
  pub only_left : (lowest : Option ℕ) → is_lower_upper count table x y z lowest ≡ false → Upper lowest
      → ((w : ℕ) → w < z → Lub w → lowest ≡ Some w) → (w : ℕ) → w < z + 1 → Lub w → lowest ≡ Some w
  only_left lowest e upper only w below lub = ⊎_elim (λ less. only w less lub) now (cases_lt w z)
    where
      now : z ≤ w → lowest ≡ Some w
      now more =
          let same : w ≡ z = omega arith in
          absurd (false≢true (sym e ∙ lub_taken lowest upper (subst (λ n. Lub n) same lub)))

  -- the level found is the least upper bound, where it is below each upper bound
  pub lub_of : IsRelated count table x z × IsRelated count table y z
      → ((w : ℕ) → IsRelated count table x w → IsRelated count table y w → IsRelated count table z w) → Lub z
  lub_of upper least = record { level = level; left = upper.0; right = upper.1; least = λ w _ p q. least w p q }

  -- and where it isn't, there is none
  pub no_lub_of : ((w : ℕ) → Lub w → z ≡ w)
      → (((w : ℕ) → IsRelated count table x w → IsRelated count table y w → IsRelated count table z w) → ⊥)
      → HasNoLub count (IsRelated count table) x y
  no_lub_of only apart w lub =
      let lub_z = subst (λ n. Lub n) (sym (only w lub)) lub in
      apart (λ v p q. lub_z.least v p.high p q)

  abbrev IsLowest : Type 0
  IsLowest = (w : ℕ) → IsRelated count table x w → IsRelated count table y w → IsRelated count table z w

  -- what the test of the level found tells
  pub lub_tested : (b : Bool) → ((b ≡ true) ↔ IsLowest) → IsRelated count table x z × IsRelated count table y z → ((w : ℕ) → Lub w → Some z ≡ Some w)
      → MatchOption (then_some b z) (HasNoLub count (IsRelated count table) x y) (IsLeastUpper count (IsRelated count table) x y)
  lub_tested true tells upper only = lub_of upper (tells.0 refl)
  lub_tested false tells upper only = no_lub_of (λ w lub. let e : Some z ≡ Some w = only w lub in cc) (λ h. false≢true (tells.1 h))

module _ (count : ℕ) (table : List Bool) (partial : IsPartialOrder count (IsRelated count table)) (best z : ℕ)
    (best_level : best < count) (level : z < count) where
  -- a level above the greatest so far takes its place
  pub greatest_taken : entry count table best z ≡ true → ((w : ℕ) → w < z → IsGreatest count table w → best ≡ w)
      → (w : ℕ) → w < z + 1 → IsGreatest count table w → z ≡ w
  greatest_taken e found w below top = ⊎_elim earlier (λ more. omega arith) (cases_lt w z)
    where
      earlier : w < z → z ≡ w
      earlier less =
          let up : IsRelated count table w z = subst (λ n. IsRelated count table n z) (found w less top) (record { low = best_level; high = level; there = e }) in
          partial.antisymmetric z w level top.level (top.above z level) up

  pub greatest_left : entry count table best z ≡ false → ((w : ℕ) → w < z → IsGreatest count table w → best ≡ w)
      → (w : ℕ) → w < z + 1 → IsGreatest count table w → best ≡ w
  greatest_left e found w below top = ⊎_elim (λ less. found w less top) now (cases_lt w z)
    where
      now : z ≤ w → best ≡ w
      now more =
          let same : w ≡ z = omega arith in
          absurd (false≢true (sym e ∙ (subst (λ n. IsRelated count table best n) same (top.above best best_level)).there))

-- a pair of levels without a least upper bound, where the pairs before have one, has the lesser level first
pub missing_ordered : (count : ℕ) (R : ℕ → ℕ → Type 0) → IsPartialOrder count R → (x y : ℕ) → x < count → y < count
    → ((a b : ℕ) → b < count → IsEarlier a b x y → (z : ℕ) × IsLeastUpper count R a b z) → HasNoLub count R x y → x < y
missing_ordered count R partial x y p q before none = ⊎_elim (λ same. absurd (itself same)) (λ apart. ⊎_elim (λ less. less) (λ more. absurd (turned more)) apart) (cases_order x y)
  where
    itself : x ≡ y → ⊥
    itself same =
        none x (subst (λ n. IsLeastUpper count R x n x) same (record {
          level = p;
          left = partial.reflexive x p;
          right = partial.reflexive x p;
          least = λ w _ r _. r;
        }))

    turned : y < x → ⊥
    turned more =
        let found = before y x p (inl more) in
        none found.0 (record { level = found.1.level; left = found.1.right; right = found.1.left; least = λ w l r s. found.1.least w l s r })
