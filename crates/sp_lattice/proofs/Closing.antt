-- That closing a table relates just the levels between which there is a path.
use Rattle.std.proofs.Common.{◌≡◌, ℕ, ◌+◌, ◌<◌, ◌&&◌, ◌||◌, ◌⊎◌, ⊎_elim, inl, inr, Bool, true, false, ltb, eqb, List, refl, sym, ◌∙◌, subst, arith}
use Rattle.std.specs.List.{Contains}
use Rattle.std.proofs.lemmas.Bool.{cases_eq, eqb-true, eq-eqb, or_cases, or_left, or_right, and_parts, and_from}
use Rattle.std.proofs.lemmas.Bool.Decides.{nat_tests}
use Rattle.sp_lattice.specs.Table.{entry, IsRelated}
use Rattle.sp_lattice.specs.Closure.{Path, here, step, IsDeclared, IsOrdered, AreLevels}

-- one row more has what goes through the middle level
pub row_more : (old now new : ℕ → ℕ → Bool) (x m a b : ℕ)
    → now a b ≡ (old a b || (ltb a x && (old a m && old m b)))
    → now m b ≡ (old m b || (ltb m x && (old m m && old m b)))
    → now x m ≡ (old x m || (ltb x x && (old x m && old m m)))
    → now x m ≡ true → new a b ≡ (now a b || (eqb a x && now m b))
    → new a b ≡ (old a b || (ltb a (x + 1) && (old a m && old m b)))
row_more old now new x m a b here_ab here_mb here_xm there added = grind (arith, nat_tests)

-- and a row that doesn't reach the middle level has nothing more
pub row_same : (old now : ℕ → ℕ → Bool) (x m a b : ℕ)
    → now a b ≡ (old a b || (ltb a x && (old a m && old m b)))
    → now x m ≡ (old x m || (ltb x x && (old x m && old m m)))
    → now x m ≡ false
    → now a b ≡ (old a b || (ltb a (x + 1) && (old a m && old m b)))
row_same old now x m a b here_ab here_xm absent = grind (arith, nat_tests)

pub Path-append : {R : ℕ → ℕ → Type 0} {x y z : ℕ} → Path R x y → Path R y z → Path R x z
Path-append here q = q
Path-append (step r p) q = step r (Path-append p q)

pub Path-map : {R S : ℕ → ℕ → Type 0} {x y : ℕ} → ((a b : ℕ) → R a b → Path S a b) → Path R x y → Path S x y
Path-map f here = here
Path-map f (step r p) = Path-append (f _ _ r) (Path-map f p)

-- related by way of the levels below k
abbrev pub IsThrough : ℕ → List Bool → ℕ → Type 0
IsThrough count table k = (j a b : ℕ) → j < k → IsRelated count table a j → IsRelated count table j b → IsRelated count table a b

module _ (count : ℕ) (old now new : List Bool) (k : ℕ) (level : k < count)
    (added : (a b : ℕ) → a < count → b < count → entry count new a b ≡ (entry count now a b || (entry count now a k && entry count now k b))) where
  pub kept : (a b : ℕ) → IsRelated count now a b → IsRelated count new a b
  kept a b r = record { low = r.low; high = r.high; there = added a b r.low r.high ∙ or_left _ _ r.there }

  joined : (a b : ℕ) → IsRelated count now a k → IsRelated count now k b → IsRelated count new a b
  joined a b r s = record { low = r.low; high = s.high; there = added a b r.low s.high ∙ or_right _ _ (and_from _ _ r.there s.there) }

  parts : (a b : ℕ) → IsRelated count new a b → IsRelated count now a b ⊎ (IsRelated count now a k × IsRelated count now k b)
  parts a b r = ⊎_elim (λ e. inl (record { low = r.low; high = r.high; there = e })) through (or_cases _ _ (sym (added a b r.low r.high) ∙ r.there))
    where
      through : (entry count now a k && entry count now k b) ≡ true → IsRelated count now a b ⊎ (IsRelated count now a k × IsRelated count now k b)
      through e =
          let both = and_parts _ _ e in
          inr (record { low = r.low; high = level; there = both.0 }, record { low = level; high = r.high; there = both.1 })

  pub only_paths : ((a b : ℕ) → IsRelated count now a b → Path (IsRelated count old) a b) → (a b : ℕ) → IsRelated count new a b → Path (IsRelated count old) a b
  only_paths h a b r = ⊎_elim (h a b) (λ p. Path-append (h a k p.0) (h k b p.1)) (parts a b r)

  pub through_more : IsThrough count now k → IsThrough count new (k + 1)
  through_more h j a b below r s = ⊎_elim at_middle earlier (cases_eq j k)
    where
      to_middle : (e : j ≡ k) → IsRelated count now a k
      to_middle e = ⊎_elim (λ x. subst (λ m. IsRelated count now a m) e x) (λ p. p.0) (parts a j r)

      from_middle : (e : j ≡ k) → IsRelated count now k b
      from_middle e = ⊎_elim (λ x. subst (λ m. IsRelated count now m b) e x) (λ p. p.1) (parts j b s)

      at_middle : j ≡ k → IsRelated count new a b
      at_middle e = joined a b (to_middle e) (from_middle e)

      earlier : (j ≡ k → ⊥) → IsRelated count new a b
      earlier apart =
          let less : j < k = omega arith in
          let below_j = λ (x y : ℕ) (p : IsRelated count now x j) (q : IsRelated count now j y). h j x y less p q in
          ⊎_elim
          (λ p. ⊎_elim (λ q. kept a b (below_j a b p q)) (λ q. joined a b (below_j a k p q.0) q.1) (parts j b s))
          (λ p. ⊎_elim (λ q. joined a b p.0 (below_j k b p.1 q)) (λ q. joined a b p.0 q.1) (parts j b s))
          (parts a j r)

module _ (count : ℕ) (pairs : List (ℕ × ℕ)) (none same declared closed : List Bool)
    (levels : AreLevels count pairs)
    (empty : (a b : ℕ) → entry count none a b ≡ false)
    (equal : (a b : ℕ) → a < count → b < count → entry count same a b ≡ ((eqb a b) || entry count none a b))
    (same_kept : (a b : ℕ) → IsRelated count same a b → IsRelated count declared a b)
    (pairs_in : (a b : ℕ) → Contains pairs (a, b) → IsRelated count declared a b)
    (only_pairs : (a b : ℕ) → IsRelated count declared a b → IsRelated count same a b ⊎ Contains pairs (a, b))
    (kept_closed : (a b : ℕ) → IsRelated count declared a b → IsRelated count closed a b)
    (paths : (a b : ℕ) → IsRelated count closed a b → Path (IsRelated count declared) a b)
    (transitive : (a b c : ℕ) → IsRelated count closed a b → IsRelated count closed b c → IsRelated count closed a c) where
  declared_step : (a b : ℕ) → IsRelated count declared a b → Path (IsDeclared pairs) a b
  declared_step a b r = ⊎_elim alike (λ p. step p here) (only_pairs a b r)
    where
      alike : IsRelated count same a b → Path (IsDeclared pairs) a b
      alike q =
          let e : eqb a b ≡ true = grind (arith, nat_tests, equal a b q.low q.high, empty a b, q.there) in
          subst (λ n. Path (IsDeclared pairs) a n) (eqb-true a b e) here

  pub closed_only : (a b : ℕ) → IsRelated count closed a b → IsOrdered pairs a b
  closed_only a b r = Path-map declared_step (paths a b r)

  pub closed_whole : {a b : ℕ} → a < count → Path (IsDeclared pairs) a b → IsRelated count closed a b
  closed_whole {a} level here =
      kept_closed a a (same_kept a a (record { low = level; high = level; there = equal a a level level ∙ or_left _ _ (eq-eqb a a refl) }))
  closed_whole {a} {b} level (step {y = c} r p) =
      let first = kept_closed a c (pairs_in a c r) in
      transitive a c b first (closed_whole first.high p)
