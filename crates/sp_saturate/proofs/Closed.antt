-- A round that finds nothing leaves a closed set.
use Rattle.std.proofs.Common.{◌≡◌, ℕ, ◌<◌, ◌≤◌, ◌⊎◌, ⊎_elim, ◌&&◌, Bool, true, false, cond, eqb, ltb, Option, Some, None, refl, sym, ap, ◌∙◌, subst, inl, inr, arith}
use Rattle.std.proofs.lemmas.Bool.{eqb-true}
use Rattle.std.proofs.lemmas.Bool.Decides.{Decides-ltb}
use Rattle.sp_values.specs.declared.value.Value.{Value}
use Rattle.sp_values.specs.declared.value.Op.TheVariants.{Add, Sub, Mul, And, Or}
use Rattle.sp_pool.specs.declared.node.Head.{Head}
use Rattle.sp_pool.specs.declared.node.Head.TheVariants.{Const, Two}
use Rattle.sp_rules.specs.Terms.{Terms, count, arg, node_at, is_part, gives, computes, is_arithmetic, is_two, is_not}
use Rattle.sp_rules.specs.Table.{rule_of, fits, premises, in_range, fits_by, premises_by, none}
use Rattle.sp_rules.specs.Laws.{IsClosed}
use Rattle.sp_rules.specs.declared.fact.Fact.{Fact}
use Rattle.sp_rules.specs.declared.fact.Fact.TheVariants.{Eq, Le}
use Rattle.sp_rules.specs.declared.fact.Step.{Step}
use Rattle.sp_rules.specs.declared.fact.Rule.{Rule}
use Rattle.sp_rules.specs.declared.fact.Rule.TheVariants.{K1, K2, K3, K4, K5, K6, K7, K8, K9, K10, K11, K12, K13, K14, K15, K16, K17, K18, K19, K20, K21, K22, K23}
use Rattle.sp_rules.proofs.Steps.{AreMet, IsReady, ready}
use Rattle.sp_saturate.specs.Steps.{on}
use Rattle.sp_saturate.specs.Trail.{Found}
use Rattle.sp_saturate.specs.Gaps.{IsOld, simple, PairIsOld, TermIsOld, UpperIsOld}
use Rattle.sp_saturate.proofs.Old.{settled}
use Rattle.sp_rules.proofs.FactLemmas.{both_hold, one_holds}

abbrev number : Rule → ℕ
number K1 = 1
number K2 = 2
number K3 = 3
number K4 = 4
number K5 = 5
number K6 = 6
number K7 = 7
number K8 = 8
number K9 = 9
number K10 = 10
number K11 = 11
number K12 = 12
number K13 = 13
number K14 = 14
number K15 = 15
number K16 = 16
number K17 = 17
number K18 = 18
number K19 = 19
number K20 = 20
number K21 = 21
number K22 = 22
number K23 = 23

abbrev some : Rule → Option Rule
some r = Some r

-- a rule's number
numbered : (k n : ℕ) (r0 : Rule) (rest : Option Rule) (r : Rule) → number r0 ≡ k → (rest ≡ some r → n ≡ number r) → (b : Bool) → eqb n k ≡ b → cond b (Some r0) rest ≡ some r → n ≡ number r
numbered k n r0 rest r d f true w e = eqb-true n k w ∙ sym d ∙ ap number (cc)
numbered k n r0 rest r d f false w e = f e

rule_is : (n : ℕ) (r : Rule) → rule_of n ≡ some r → n ≡ number r
rule_is n r e =
    numbered 1 n K1 _ r refl (λ e1. numbered 2 n K2 _ r refl (λ e2. numbered 3 n K3 _ r refl (λ e3. numbered 4 n K4 _ r refl (λ e4. numbered 5 n K5 _ r refl (λ e5. numbered 6 n K6 _ r refl (λ e6. numbered 7 n K7 _ r refl (λ e7. numbered 8 n K8 _ r refl (λ e8. numbered 9 n K9 _ r refl (λ e9. numbered 10 n K10 _ r refl (λ e10. numbered 11 n K11 _ r refl (λ e11. numbered 12 n K12 _ r refl (λ e12. numbered 13 n K13 _ r refl (λ e13. numbered 14 n K14 _ r refl (λ e14. numbered 15 n K15 _ r refl (λ e15. numbered 16 n K16 _ r refl (λ e16. numbered 17 n K17 _ r refl (λ e17. numbered 18 n K18 _ r refl (λ e18. numbered 19 n K19 _ r refl (λ e19. numbered 20 n K20 _ r refl (λ e20. numbered 21 n K21 _ r refl (λ e21. numbered 22 n K22 _ r refl (λ e22. numbered 23 n K23 _ r refl (λ e23. absurd (cc e23)) (eqb n 23) refl e22) (eqb n 22) refl e21) (eqb n 21) refl e20) (eqb n 20) refl e19) (eqb n 19) refl e18) (eqb n 18) refl e17) (eqb n 17) refl e16) (eqb n 16) refl e15) (eqb n 15) refl e14) (eqb n 14) refl e13) (eqb n 13) refl e12) (eqb n 12) refl e11) (eqb n 11) refl e10) (eqb n 10) refl e9) (eqb n 9) refl e8) (eqb n 8) refl e7) (eqb n 7) refl e6) (eqb n 6) refl e5) (eqb n 5) refl e4) (eqb n 4) refl e3) (eqb n 3) refl e2) (eqb n 2) refl e1) (eqb n 1) refl e

gives_calculation : (a : Head) (u v w : Value) → gives a u v w ≡ true → is_arithmetic a ≡ true
gives_calculation (Two Add) u v w e = refl
gives_calculation (Two Sub) u v w e = refl
gives_calculation (Two Mul) u v w e = refl
gives_calculation _ u v w e = absurd (cc)

calculation : (a b c d : Head) → computes a b c d ≡ true → is_arithmetic a ≡ true
calculation a (Const u) (Const v) (Const w) e = gives_calculation a u v w (both_hold _ _ e).1
calculation a _ _ _ e = absurd (cc)

module _ (t : Found) (old : (i : ℕ) → i < count t.terms → TermIsOld t i) where
  abbrev ts : Terms
  ts = t.terms

  -- p and q are 0
  at_zero : (f : Fact) (r p q : ℕ) → none p q ≡ true → IsOld t (simple f r 0) → IsOld t (record { fact = f; rule = r; p = p; q = q })
  at_zero f r p q e o =
      let z = both_hold (eqb p 0) (eqb q 0) e in
      subst (λ x. IsOld t (record { fact = f; rule = r; p = x; q = q })) (sym (eqb-true p 0 z.0)) (subst (λ x. IsOld t (record { fact = f; rule = r; p = 0; q = x })) (sym (eqb-true q 0 z.1)) o)

  at_p : (f : Fact) (r p q : ℕ) → eqb q 0 ≡ true → IsOld t (simple f r p) → IsOld t (record { fact = f; rule = r; p = p; q = q })
  at_p f r p q e o = subst (λ x. IsOld t (record { fact = f; rule = r; p = p; q = x })) (sym (eqb-true q 0 e)) o

  abbrev InRange : ℕ → ℕ → Type 0
  InRange i j = (ltb i (count ts) && ltb j (count ts)) ≡ true

  left_in : (i j : ℕ) → InRange i j → i < count ts
  left_in i j w = (Decides-ltb i (count ts)).0 (both_hold _ _ w).0

  right_in : (i j : ℕ) → InRange i j → j < count ts
  right_in i j w = (Decides-ltb j (count ts)).0 (both_hold _ _ w).1

  pair : (i j : ℕ) → InRange i j → PairIsOld t i j
  pair i j w = (old i (left_in i j w)).pairs j (right_in i j w)

  upper : (i j : ℕ) → InRange i j → UpperIsOld t i j
  upper i j w = (old i (left_in i j w)).uppers j (right_in i j w)

  equal_at : (a b i j r p : ℕ) → eqb a i ≡ true → eqb b j ≡ true → IsOld t (simple (Eq a b) r p) → IsOld t (simple (Eq i j) r p)
  equal_at a b i j r p e d o = subst (λ x. IsOld t (simple (Eq x j) r p)) (eqb-true a i e) (subst (λ y. IsOld t (simple (Eq a y) r p)) (eqb-true b j d) o)

  below_at : (a b i j r p : ℕ) → eqb a i ≡ true → eqb b j ≡ true → IsOld t (simple (Le a b) r p) → IsOld t (simple (Le i j) r p)
  below_at a b i j r p e d o = subst (λ x. IsOld t (simple (Le x j) r p)) (eqb-true a i e) (subst (λ y. IsOld t (simple (Le a y) r p)) (eqb-true b j d) o)

  -- NOT, AND and OR
  truth : (r i j p q : ℕ) → 19 ≤ r → r < 22 → InRange i j → p < count ts → (a b c : Bool) → (c ≡ true → (arg ts p 0 ≡ i) ⊎ (arg ts p 1 ≡ i))
      → (eqb q 0 && ltb j 2 && cond (eqb p 0) a (b && c)) ≡ true → IsOld t (record { fact = Eq i j; rule = r; p = p; q = q })
  truth r i j p q low high w l a b c part e =
      let g = both_hold (eqb q 0 && ltb j 2) _ e in
      let k = both_hold (eqb q 0) (ltb j 2) g.0 in
      at_p (Eq i j) r p q k.0 (by ((Decides-ltb j 2).0 k.1) (eqb p 0) refl g.1)
    where
      by : j < 2 → (z : Bool) → eqb p 0 ≡ z → cond z a (b && c) ≡ true → IsOld t (simple (Eq i j) r p)
      by two true v u = subst (λ x. IsOld t (simple (Eq i j) r x)) (sym (eqb-true p 0 v)) ((old i (left_in i j w)).truths r j low high two).whole
      by two false v u =
          let s = (old p l).truths r j low high two in
          ⊎_elim (λ (x : arg ts p 0 ≡ i). subst (λ y. IsOld t (simple (Eq y j) r p)) x s.first) (λ (x : arg ts p 1 ≡ i). subst (λ y. IsOld t (simple (Eq y j) r p)) x s.second) (part (both_hold b c u).1)

  part_of : (i p : ℕ) → is_part i (node_at ts p) ≡ true → (arg ts p 0 ≡ i) ⊎ (arg ts p 1 ≡ i)
  part_of i p e = ⊎_elim (λ x. inl (eqb-true (arg ts p 0) i x)) (λ x. inr (eqb-true (arg ts p 1) i x)) (one_holds _ _ e)

  covered : (r : Rule) (f : Fact) (p q : ℕ) (first : Bool) → fits ts r f p q ≡ true → in_range (count ts) f ≡ true → p < count ts → q < count ts
      → AreMet ts (on t.steps) (premises ts r f p q) first → IsOld t (record { fact = f; rule = number r; p = p; q = q })
  covered K1 (Eq i j) p q first u w l m met = at_zero (Eq i j) 1 p q (both_hold _ _ u).0 (subst (λ y. IsOld t (simple (Eq i y) 1 0)) (eqb-true i j (both_hold _ _ u).1) (old i (left_in i j w)).form.k1)
  covered K2 (Eq i j) p q first u w l m met = at_zero (Eq i j) 2 p q u ((old j (right_in i j w)).pairs i (left_in i j w)).equal.k2
  covered K3 (Eq i j) p q first u w l m met = at_p (Eq i j) 3 p q u (((old i (left_in i j w)).pairs p l).equal.k3 j (right_in i j w))
  covered K4 (Eq i j) p q first u w l m met = at_zero (Eq i j) 4 p q (both_hold _ _ u).0 (pair i j w).alike
  covered K5 (Eq i j) p q first u w l m met =
      let a = both_hold _ _ u in
      let b = both_hold _ _ a.0 in
      at_p (Eq i j) 5 p q (both_hold _ _ b.0).0 (equal_at (arg ts p 0) (arg ts p 1) i j 5 p b.1 a.1 (old p l).form.k5)
  covered K6 (Eq i j) p q first u w l m met =
      let a = both_hold _ _ (both_hold _ _ u).0 in
      at_zero (Eq i j) 6 p q a.0 (subst (λ x. IsOld t (simple (Eq i x) 6 0)) (sym (eqb-true j 0 a.1)) (old i (left_in i j w)).form.k6)
  covered K7 (Le i j) p q first u w l m met = at_zero (Le i j) 7 p q (both_hold _ _ (both_hold _ _ u).0).0 (upper i j w).k7
  covered K8 (Le i j) p q first u w l m met = at_p (Le i j) 8 p q u (((old i (left_in i j w)).pairs p l).below.k8 j (right_in i j w))
  covered K9 (Le i j) p q first u w l m met = at_zero (Le i j) 9 p q (both_hold _ _ (both_hold _ _ u).0).0 (upper i j w).k9
  covered K10 (Eq i j) p q first u w l m met = at_zero (Eq i j) 10 p q u (pair i j w).below.k10
  covered K11 (Le i j) p q first u w l m met = at_zero (Le i j) 11 p q (both_hold _ _ u).0 (upper i j w).k11
  covered K12 (Le i j) p q first u w l m met = at_zero (Le i j) 12 p q (both_hold _ _ (both_hold _ _ (both_hold _ _ u).0).0).0 (upper i j w).k12
  covered K13 (Le i j) p q first u w l m met =
      let a = both_hold _ _ u in
      let o = (old j (right_in i j w)).bounds in
      at_zero (Le i j) 13 p q (both_hold _ _ a.0).0
      (⊎_elim (λ (x : arg ts j 0 ≡ i). subst (λ y. IsOld t (simple (Le y j) 13 0)) x o.k13_first) (λ (x : arg ts j 1 ≡ i). subst (λ y. IsOld t (simple (Le y j) 13 0)) x o.k13_second) (part_of i j a.1))
  covered K14 (Le i j) p q first u w l m met = at_zero (Le i j) 14 p q (both_hold _ _ u).0 (upper i j w).k14
  covered K15 (Le i j) p q first u w l m met =
      let a = both_hold _ _ u in
      let o = (old i (left_in i j w)).bounds in
      at_zero (Le i j) 15 p q (both_hold _ _ a.0).0
      (⊎_elim (λ (x : arg ts i 0 ≡ j). subst (λ y. IsOld t (simple (Le i y) 15 0)) x o.k15_first) (λ (x : arg ts i 1 ≡ j). subst (λ y. IsOld t (simple (Le i y) 15 0)) x o.k15_second) (part_of j i a.1))
  covered K16 (Le i j) p q first u w l m met = at_zero (Le i j) 16 p q (both_hold _ _ u).0 ((old j (right_in i j w)).lowers i (left_in i j w))
  covered K17 (Le i j) p q first u w l m met =
      let a = both_hold _ _ u in
      let b = both_hold _ _ a.0 in
      at_p (Le i j) 17 p q (both_hold _ _ b.0).0 (below_at (arg ts p 0) (arg ts p 1) i j 17 p b.1 a.1 (old p l).bounds.k17)
  covered K18 (Eq i j) p q first u w l m met =
      let a = both_hold _ _ (both_hold _ _ u).0 in
      at_zero (Eq i j) 18 p q a.0 (subst (λ x. IsOld t (simple (Eq i x) 18 0)) (sym (eqb-true j 0 a.1)) (old i (left_in i j w)).form.k18)
  covered K19 (Eq i j) p q first u w l m met =
      truth 19 i j p q (omega arith) (omega arith) w l (is_not (node_at ts i)) (is_not (node_at ts p)) (eqb (arg ts p 0) i) (λ e. inl (eqb-true (arg ts p 0) i e)) u
  covered K20 (Eq i j) p q first u w l m met =
      truth 20 i j p q (omega arith) (omega arith) w l (is_two And (node_at ts i)) (is_two And (node_at ts p)) (is_part i (node_at ts p)) (part_of i p) u
  covered K21 (Eq i j) p q first u w l m met =
      truth 21 i j p q (omega arith) (omega arith) w l (is_two Or (node_at ts i)) (is_two Or (node_at ts p)) (is_part i (node_at ts p)) (part_of i p) u
  covered K22 (Eq i j) p q first u w l m met =
      let a = both_hold _ _ u in
      let o = (old i (left_in i j w)).form in
      at_zero (Eq i j) 22 p q (both_hold _ _ a.0).0
      (⊎_elim (λ (x : eqb (arg ts i 1) j ≡ true). subst (λ y. IsOld t (simple (Eq i y) 22 0)) (eqb-true (arg ts i 1) j x) o.k22_then)
      (λ (x : eqb (arg ts i 2) j ≡ true). subst (λ y. IsOld t (simple (Eq i y) 22 0)) (eqb-true (arg ts i 2) j x) o.k22_else) (one_holds _ _ a.1))
  covered K23 (Eq i j) p q first u w l m met =
      (old i (left_in i j w)).sums (calculation (node_at ts i).head (node_at ts p).head (node_at ts q).head (node_at ts j).head (both_hold _ _ u).1)
      p q j l m (right_in i j w) (met (Eq (arg ts i 0) p) (inl refl)) (met (Eq (arg ts i 1) q) (inr refl))
  covered _ _ p q first u w l m met = absurd (cc)

  old_step : (s : Step) → IsReady ts (on t.steps) s → IsOld t s
  old_step s r = by (rule_of s.rule) refl r.is_formed_here r.are_met
    where
      by : (o : Option Rule) → rule_of s.rule ≡ o → fits_by ts s o ≡ true → AreMet ts (on t.steps) (premises_by ts s o) r.first → IsOld t s
      by None v u met = absurd (cc u)
      by (Some k) v u met =
          let a = both_hold _ _ r.are_terms_here in
          let b = both_hold _ _ a.0 in
          subst (λ n. IsOld t (record { fact = s.fact; rule = n; p = s.p; q = s.q })) (sym (rule_is s.rule k v))
          (covered k s.fact s.p s.q r.first u b.0 ((Decides-ltb s.p (count ts)).0 b.1) ((Decides-ltb s.q (count ts)).0 a.1) met)

  pub closed : IsClosed ts (on t.steps)
  closed s lacks = settled t s (old_step s (ready ts (on t.steps) s lacks)) lacks
