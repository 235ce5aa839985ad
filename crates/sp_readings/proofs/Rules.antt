-- Each rule holds under every reading.
use Rattle.std.proofs.Common.{◌≡◌, refl, sym, ap, ◌∙◌, subst, arith, ℕ, zero, suc, ◌<◌, ◌-◌, ◌==◌, ◌&&◌, ◌||◌, not, Bool, true, false, cond, eqb, ltb, ◌⊎◌, inl, inr, ⊎_elim, [], ◌∷◌}
use Rattle.std.specs.Prelude.{if◌then◌else◌}
use Rattle.std.proofs.lemmas.Bool.{eqb-true}
use Rattle.std.proofs.lemmas.Bool.Decides.{Decides-ltb}
use Rattle.sp_values.specs.declared.value.Value.{Value}
use Rattle.sp_values.specs.declared.value.Value.TheVariants.{Truth, Int, Level, Member, Unknown}
use Rattle.sp_values.specs.declared.value.Op.{Op}
use Rattle.sp_values.specs.declared.value.Op.TheVariants.{And, Or, Same, LevelLe, Lub, Glb, Add, Sub, Mul}
use Rattle.sp_values.specs.Identity.{same_value, same_value-Decides}
use Rattle.sp_lattice.specs.Order.{IsBelow, Order, bottom_level, is_below, join, meet, top_level}
use Rattle.sp_pool.specs.declared.node.Head.{Head}
use Rattle.sp_pool.specs.declared.node.Head.TheVariants.{Const, Two}
use Rattle.sp_core.specs.Values.{is_true, level_number, two}
use Rattle.sp_rules.specs.Terms.{Terms, are_alike, are_below, arg, computes, count, gives, is_constant_of, is_if, is_not, is_part, is_two, node_at, same_head}
use Rattle.sp_rules.specs.Table.{fits, in_range, other, premises}
use Rattle.sp_rules.specs.Clash.{are_apart, are_denied, is_clash}
use Rattle.sp_rules.proofs.FactLemmas.{both_hold, one_holds}
use Rattle.sp_rules.specs.Follows.{IsPremise}
use Rattle.sp_rules.specs.declared.fact.Fact.{Fact}
use Rattle.sp_rules.specs.declared.fact.Fact.TheVariants.{Eq, Le}
use Rattle.sp_rules.specs.declared.fact.Needs.{Needs}
use Rattle.sp_rules.specs.declared.fact.Needs.TheVariants.{One, Both, Either, Arguments}
use Rattle.sp_rules.specs.declared.fact.Rule.{Rule}
use Rattle.sp_rules.specs.declared.fact.Rule.TheVariants.{K1, K2, K3, K4, K5, K6, K7, K8, K9, K10, K11, K12, K13, K14, K15, K16, K17, K18, K19, K20, K21, K22, K23}
use Rattle.sp_readings.specs.Readings.{AreBelow, Holds, IsLevel, IsReading, IsTruth, Reading, meaning, takes_levels, takes_truths}
use Rattle.sp_readings.proofs.Heads.{constant_value, first_same, has_op-is, if_value, known_form, not_head-is, not_value, same_head-is, two_value}

-- Values

true_is : (x : Value) → is_true x ≡ true → x ≡ Truth true
true_is (Truth true) e = refl
true_is (Truth false) e = absurd (cc)
true_is (Int n) e = absurd (cc)
true_is (Level l) e = absurd (cc)
true_is (Member k m) e = absurd (cc)
true_is Unknown e = absurd (cc)

truth_is : (x : Value) (b : Bool) → IsTruth x → is_true x ≡ b → x ≡ Truth b
truth_is x b t e = t.1 ∙ ap Truth (sym (ap is_true t.1) ∙ e)

not_not : (b : Bool) → not (not b) ≡ b
not_not true = refl
not_not false = refl

not_same : (a b : Bool) → not a ≡ not b → a ≡ b
not_same a b e = sym (not_not a) ∙ ap not e ∙ not_not b

and_left : (a b : Bool) → (a && b) ≡ false → b ≡ true → a ≡ false
and_left true b e f = absurd (cc)
and_left false b e f = refl

and_right : (a b : Bool) → (a && b) ≡ false → a ≡ true → b ≡ false
and_right true b e f = e
and_right false b e f = absurd (cc)

or_left : (a b : Bool) → (a || b) ≡ true → b ≡ false → a ≡ true
or_left true b e f = refl
or_left false b e f = absurd (cc)

or_right : (a b : Bool) → (a || b) ≡ true → a ≡ false → b ≡ true
or_right true b e f = absurd (cc)
or_right false b e f = e

none_holds : (a b : Bool) → (a || b) ≡ false → (a ≡ false) × (b ≡ false)
none_holds true b e = absurd (cc)
none_holds false b e = (refl, e)

if_same : (c : Bool) (x y z : Value) → x ≡ z → y ≡ z → (if c then x else y) ≡ z
if_same true x y z e d = e
if_same false x y z e d = d

level_same : (x y : ℕ) → Level x ≡ Level y → x ≡ y
level_same x y e = ap level_number e

module _ (r : Reading) (ts : Terms) (v : ℕ → Value) (h : IsReading r ts v) where
  abbrev o : Order
  o = ts.lattice

  -- the needs on one side hold
  abbrev pub Met : Needs → Bool → Type 0
  Met n first = (f : Fact) → IsPremise ts n first f → Holds ts.lattice v f

  abbrev InRange : ℕ → ℕ → Type 0
  InRange i j = (ltb i (count ts) && ltb j (count ts)) ≡ true

  left_in : (i j : ℕ) → InRange i j → i < count ts
  left_in i j w = (Decides-ltb i (count ts)).0 (both_hold _ _ w).0

  right_in : (i j : ℕ) → InRange i j → j < count ts
  right_in i j w = (Decides-ltb j (count ts)).0 (both_hold _ _ w).1

  -- Levels

  below_self : (x : Value) (a : IsLevel o x) → AreBelow o x x
  below_self x a = record { low = a; high = a; below = h.over.lattice.partial.reflexive a.0 a.2 }

  below_equal : (x y : Value) → IsLevel o x → x ≡ y → AreBelow o x y
  below_equal x y a e = subst (AreBelow o x) e (below_self x a)

  below_through : (x y z : Value) → AreBelow o x y → AreBelow o y z → AreBelow o x z
  below_through x y z a b =
      let m : a.high.0 ≡ b.low.0 = level_same a.high.0 b.low.0 (sym a.high.1 ∙ b.low.1) in
      record {
        low = a.low;
        high = b.high;
        below = h.over.lattice.partial.transitive a.low.0 a.high.0 b.high.0 a.low.2 a.high.2 b.high.2 a.below (subst (λ n. IsBelow o n b.high.0) (sym m) b.below);
      }

  below_both : (x y : Value) → AreBelow o x y → AreBelow o y x → x ≡ y
  below_both x y a b =
      let m : b.low.0 ≡ a.high.0 = level_same b.low.0 a.high.0 (sym b.low.1 ∙ a.high.1) in
      let n : b.high.0 ≡ a.low.0 = level_same b.high.0 a.low.0 (sym b.high.1 ∙ a.low.1) in
      let back : IsBelow o a.high.0 a.low.0 = subst (λ k. IsBelow o k a.low.0) m (subst (λ k. IsBelow o b.low.0 k) n b.below) in
      a.low.1 ∙ ap Level (h.over.lattice.partial.antisymmetric a.low.0 a.high.0 a.low.2 a.high.2 a.below back) ∙ sym a.high.1

  -- what the levels are that a value is, if it is one
  below_of : (x y : Value) (a b : ℕ) → x ≡ Level a → y ≡ Level b → a < o.count → b < o.count → IsBelow o a b → AreBelow o x y
  below_of x y a b e d l k w = record { low = (a, e, l); high = (b, d, k); below = w }

  -- the numbers of two levels of which one is below the other
  below_numbers : (x y : Value) (a b : ℕ) → x ≡ Level a → y ≡ Level b → AreBelow o x y → IsBelow o a b
  below_numbers x y a b e d w =
      subst (λ n. IsBelow o n b) (level_same w.low.0 a (sym w.low.1 ∙ e)) (subst (λ n. IsBelow o w.low.0 n) (level_same w.high.0 b (sym w.high.1 ∙ d)) w.below)

  constant_level : (z i : ℕ) → i < count ts → is_constant_of z (node_at ts i).head ≡ true → v i ≡ Level z
  constant_level z i l e = by (node_at ts i).head refl e
    where
      by : (hd : Head) → (node_at ts i).head ≡ hd → is_constant_of z hd ≡ true → v i ≡ Level z
      by (Const (Level y)) d g = constant_value r ts v h i l (Level y) d ∙ ap Level (sym (eqb-true z y g))
      by _ d g = absurd (cc)

  two_count : (op : Op) (i : ℕ) → is_two op (node_at ts i) ≡ true → (node_at ts i).count ≡ 2
  two_count op i e = eqb-true (node_at ts i).count 2 (both_hold _ _ e).1

  -- the two arguments of an operator on levels are levels
  two_levels : (op : Op) (i : ℕ) → i < count ts → is_two op (node_at ts i) ≡ true → takes_levels (Two op) ≡ true
      → IsLevel o (v (arg ts i 0)) × IsLevel o (v (arg ts i 1))
  two_levels op i l e t =
      let n = two_count op i e in
      let s = ap takes_levels (has_op-is op (node_at ts i).head (both_hold _ _ e).0) ∙ t in
      (h.levels i 0 l (omega (arith, n)) s, h.levels i 1 l (omega (arith, n)) s)

  -- one of the two arguments of an operator on truths is a truth
  part_truth : (op : Op) (i k : ℕ) → i < count ts → k < 2 → is_two op (node_at ts i) ≡ true → takes_truths (Two op) ≡ true → IsTruth (v (arg ts i k))
  part_truth op i k l few e t =
      let n = two_count op i e in
      h.truths i k l (omega (arith, n, few)) (ap takes_truths (has_op-is op (node_at ts i).head (both_hold _ _ e).0) ∙ t)

  -- the value of LUB, of GLB and of a comparison, at levels
  lub_value : (i : ℕ) → i < count ts → is_two Lub (node_at ts i) ≡ true → (x y : ℕ) → v (arg ts i 0) ≡ Level x → v (arg ts i 1) ≡ Level y → v i ≡ Level (join o x y)
  lub_value i l e x y a b =
      two_value r ts v h Lub i l e ∙ (λ k. Level (h.over.joins k (level_number (a k)) (level_number (b k))))

  glb_value : (i : ℕ) → i < count ts → is_two Glb (node_at ts i) ≡ true → (x y : ℕ) → v (arg ts i 0) ≡ Level x → v (arg ts i 1) ≡ Level y → v i ≡ Level (meet o x y)
  glb_value i l e x y a b =
      two_value r ts v h Glb i l e ∙ (λ k. Level (h.over.meets k (level_number (a k)) (level_number (b k))))

  le_value : (i : ℕ) → i < count ts → is_two LevelLe (node_at ts i) ≡ true → (x y : ℕ) → v (arg ts i 0) ≡ Level x → v (arg ts i 1) ≡ Level y → v i ≡ Truth (is_below o x y)
  le_value i l e x y a b =
      two_value r ts v h LevelLe i l e ∙ (λ k. Truth (h.over.below k (level_number (a k)) (level_number (b k))))

  -- it is one of the two arguments
  part_of : (i p : ℕ) → is_part i (node_at ts p) ≡ true → (v (arg ts p 0) ≡ v i) ⊎ (v (arg ts p 1) ≡ v i)
  part_of i p e = ⊎_elim (λ (s : eqb (arg ts p 0) i ≡ true). inl (ap v (eqb-true (arg ts p 0) i s))) (λ (s : eqb (arg ts p 1) i ≡ true). inr (ap v (eqb-true (arg ts p 1) i s))) (one_holds _ _ e)

  -- what terms 0 and 1 are worth
  truth_at : (j : ℕ) → j < 2 → (b : Bool) × (v j ≡ Truth b) × (v (1 - j) ≡ Truth (not b))
  truth_at zero l = (true, h.true_first, h.false_second)
  truth_at (suc zero) l = (false, h.false_second, h.true_first)
  truth_at (suc (suc j)) l = absurd (omega (arith, l))

  -- NOT
  not_rule : (i j p : ℕ) → i < count ts → j < 2 → p < count ts → (z : Bool) → cond z (is_not (node_at ts i)) (is_not (node_at ts p) && (arg ts p 0 == i)) ≡ true
      → v (cond z (arg ts i 0) p) ≡ v (1 - j) → v i ≡ v j
  not_rule i j p li two lp true e m =
      let b = truth_at j two in
      not_value r ts v h i li e ∙ ap (λ x. Truth (not (is_true x))) (m ∙ b.2) ∙ ap Truth (not_not b.0) ∙ sym b.1
  not_rule i j p li two lp false e m =
      let b = truth_at j two in
      let t = both_hold _ _ e in
      let g = both_hold _ _ t.0 in
      let n : (node_at ts p).count ≡ 1 = eqb-true (node_at ts p).count 1 g.1 in
      let same : v (arg ts p 0) ≡ v i = ap v (eqb-true (arg ts p 0) i t.1) in
      let x : IsTruth (v (arg ts p 0)) = h.truths p 0 lp (omega (arith, n)) (ap takes_truths (not_head-is (node_at ts p).head g.0)) in
      sym same ∙ truth_is (v (arg ts p 0)) b.0 x (not_same _ _ (ap is_true (sym (not_value r ts v h p lp t.0) ∙ m ∙ b.2))) ∙ sym b.1

  -- AND
  and_rule : (i j p : ℕ) → i < count ts → j < 2 → p < count ts → (z first : Bool) → cond z (is_two And (node_at ts i)) (is_two And (node_at ts p) && is_part i (node_at ts p)) ≡ true
      → Met (cond z (cond (j == 0) (Both (Eq (arg ts i 0) 0) (Eq (arg ts i 1) 0)) (Either (Eq (arg ts i 0) 1) (Eq (arg ts i 1) 1))) (cond (j == 0) (One (Eq p 0)) (Both (Eq p 1) (Eq (other ts p i) 0)))) first
      → v i ≡ v j
  and_rule i zero p li two lp true first e m =
      two_value r ts v h And i li e ∙ (λ k. Truth (is_true ((m (Eq (arg ts i 0) 0) (inl refl) ∙ h.true_first) k) && is_true ((m (Eq (arg ts i 1) 0) (inr refl) ∙ h.true_first) k))) ∙ sym h.true_first
  and_rule i (suc zero) p li two lp true true e m =
      two_value r ts v h And i li e ∙ ap (λ x. Truth (is_true x && is_true (v (arg ts i 1)))) (m (Eq (arg ts i 0) 1) refl ∙ h.false_second) ∙ sym h.false_second
  and_rule i (suc zero) p li two lp true false e m =
      two_value r ts v h And i li e ∙ ap (λ x. Truth (is_true (v (arg ts i 0)) && is_true x)) (m (Eq (arg ts i 1) 1) refl ∙ h.false_second) ∙ ap Truth (and_false (is_true (v (arg ts i 0)))) ∙ sym h.false_second
    where
      and_false : (b : Bool) → (b && false) ≡ false
      and_false true = refl
      and_false false = refl
  and_rule i zero p li two lp false first e m =
      let t = both_hold _ _ e in
      let g = both_hold _ _ (ap is_true (sym (two_value r ts v h And p lp t.0) ∙ m (Eq p 0) refl ∙ h.true_first)) in
      ⊎_elim (λ (s : v (arg ts p 0) ≡ v i). sym s ∙ true_is (v (arg ts p 0)) g.0) (λ (s : v (arg ts p 1) ≡ v i). sym s ∙ true_is (v (arg ts p 1)) g.1) (part_of i p t.1) ∙ sym h.true_first
  and_rule i (suc zero) p li two lp false first e m =
      let t = both_hold _ _ e in
      let g : (is_true (v (arg ts p 0)) && is_true (v (arg ts p 1))) ≡ false = ap is_true (sym (two_value r ts v h And p lp t.0) ∙ m (Eq p 1) (inl refl) ∙ h.false_second) in
      by t.0 g (eqb (arg ts p 0) i) refl t.1 (m (Eq (other ts p i) 0) (inr refl) ∙ h.true_first) ∙ sym h.false_second
    where
      by : is_two And (node_at ts p) ≡ true → (is_true (v (arg ts p 0)) && is_true (v (arg ts p 1))) ≡ false → (b : Bool) → eqb (arg ts p 0) i ≡ b → (b || (arg ts p 1 == i)) ≡ true
          → v (cond b (arg ts p 1) (arg ts p 0)) ≡ Truth true → v i ≡ Truth false
      by w g true a s d = sym (ap v (eqb-true (arg ts p 0) i a)) ∙ truth_is (v (arg ts p 0)) false (part_truth And p 0 lp (omega arith) w refl) (and_left _ _ g (ap is_true d))
      by w g false a s d = sym (ap v (eqb-true (arg ts p 1) i s)) ∙ truth_is (v (arg ts p 1)) false (part_truth And p 1 lp (omega arith) w refl) (and_right _ _ g (ap is_true d))
  and_rule i (suc (suc j)) p li two lp z first e m = absurd (omega (arith, two))

  -- OR
  or_rule : (i j p : ℕ) → i < count ts → j < 2 → p < count ts → (z first : Bool) → cond z (is_two Or (node_at ts i)) (is_two Or (node_at ts p) && is_part i (node_at ts p)) ≡ true
      → Met (cond z (cond (j == 0) (Either (Eq (arg ts i 0) 0) (Eq (arg ts i 1) 0)) (Both (Eq (arg ts i 0) 1) (Eq (arg ts i 1) 1))) (cond (j == 0) (Both (Eq p 0) (Eq (other ts p i) 1)) (One (Eq p 1)))) first
      → v i ≡ v j
  or_rule i (suc zero) p li two lp true first e m =
      two_value r ts v h Or i li e ∙ (λ k. Truth (is_true ((m (Eq (arg ts i 0) 1) (inl refl) ∙ h.false_second) k) || is_true ((m (Eq (arg ts i 1) 1) (inr refl) ∙ h.false_second) k))) ∙ sym h.false_second
  or_rule i zero p li two lp true true e m =
      two_value r ts v h Or i li e ∙ ap (λ x. Truth (is_true x || is_true (v (arg ts i 1)))) (m (Eq (arg ts i 0) 0) refl ∙ h.true_first) ∙ sym h.true_first
  or_rule i zero p li two lp true false e m =
      two_value r ts v h Or i li e ∙ ap (λ x. Truth (is_true (v (arg ts i 0)) || is_true x)) (m (Eq (arg ts i 1) 0) refl ∙ h.true_first) ∙ ap Truth (or_true (is_true (v (arg ts i 0)))) ∙ sym h.true_first
    where
      or_true : (b : Bool) → (b || true) ≡ true
      or_true true = refl
      or_true false = refl
  or_rule i (suc zero) p li two lp false first e m =
      let t = both_hold _ _ e in
      let g = none_holds _ _ (ap is_true (sym (two_value r ts v h Or p lp t.0) ∙ m (Eq p 1) refl ∙ h.false_second)) in
      ⊎_elim (λ (s : v (arg ts p 0) ≡ v i). sym s ∙ truth_is (v (arg ts p 0)) false (part_truth Or p 0 lp (omega arith) t.0 refl) g.0) (λ (s : v (arg ts p 1) ≡ v i). sym s ∙ truth_is (v (arg ts p 1)) false (part_truth Or p 1 lp (omega arith) t.0 refl) g.1) (part_of i p t.1) ∙ sym h.false_second
  or_rule i zero p li two lp false first e m =
      let t = both_hold _ _ e in
      let g : (is_true (v (arg ts p 0)) || is_true (v (arg ts p 1))) ≡ true = ap is_true (sym (two_value r ts v h Or p lp t.0) ∙ m (Eq p 0) (inl refl) ∙ h.true_first) in
      by g (eqb (arg ts p 0) i) refl t.1 (m (Eq (other ts p i) 1) (inr refl) ∙ h.false_second) ∙ sym h.true_first
    where
      by : (is_true (v (arg ts p 0)) || is_true (v (arg ts p 1))) ≡ true → (b : Bool) → eqb (arg ts p 0) i ≡ b → (b || (arg ts p 1 == i)) ≡ true
          → v (cond b (arg ts p 1) (arg ts p 0)) ≡ Truth false → v i ≡ Truth true
      by g true a s d = sym (ap v (eqb-true (arg ts p 0) i a)) ∙ true_is (v (arg ts p 0)) (or_left _ _ g (ap is_true d))
      by g false a s d = sym (ap v (eqb-true (arg ts p 1) i s)) ∙ true_is (v (arg ts p 1)) (or_right _ _ g (ap is_true d))
  or_rule i (suc (suc j)) p li two lp z first e m = absurd (omega (arith, two))

  -- IF
  if_rule : (i j : ℕ) → i < count ts → is_if (node_at ts i) ≡ true → (first a b : Bool) → eqb (arg ts i 1) j ≡ a → eqb (arg ts i 2) j ≡ b → (a || b) ≡ true
      → Met (cond (a && b) (Either (Eq (arg ts i 0) 0) (Eq (arg ts i 0) 1)) (One (Eq (arg ts i 0) (cond a 0 1)))) first → v i ≡ v j
  if_rule i j li e first true true s t u m =
      if_value r ts v h i li e ∙ if_same (is_true (v (arg ts i 0))) (v (arg ts i 1)) (v (arg ts i 2)) (v j) (ap v (eqb-true (arg ts i 1) j s)) (ap v (eqb-true (arg ts i 2) j t))
  if_rule i j li e first true false s t u m =
      if_value r ts v h i li e ∙ ap (λ x. if is_true x then v (arg ts i 1) else v (arg ts i 2)) (m (Eq (arg ts i 0) 0) refl ∙ h.true_first) ∙ ap v (eqb-true (arg ts i 1) j s)
  if_rule i j li e first false true s t u m =
      if_value r ts v h i li e ∙ ap (λ x. if is_true x then v (arg ts i 1) else v (arg ts i 2)) (m (Eq (arg ts i 0) 1) refl ∙ h.false_second) ∙ ap v (eqb-true (arg ts i 2) j t)
  if_rule i j li e first false false s t u m = absurd (cc)

  -- sums, differences and products
  sum_rule : (i p q j : ℕ) → i < count ts → p < count ts → q < count ts → j < count ts → (node_at ts i).count ≡ 2
      → (a b c d : Head) → (node_at ts i).head ≡ a → (node_at ts p).head ≡ b → (node_at ts q).head ≡ c → (node_at ts j).head ≡ d → computes a b c d ≡ true
      → v (arg ts i 0) ≡ v p → v (arg ts i 1) ≡ v q → v i ≡ v j
  sum_rule i p q j li lp lq lj n a (Const x) (Const y) (Const z) ea eb ec ed e m k =
      known_form r ts v h i li a 2 ea n
      ∙ (λ g. meaning r a ((m ∙ constant_value r ts v h p lp x eb) g ∷ (k ∙ constant_value r ts v h q lq y ec) g ∷ []))
      ∙ by a (both_hold _ _ e).1 ∙ sym (constant_value r ts v h j lj z ed)
    where
      by : (a : Head) → gives a x y z ≡ true → meaning r a (x ∷ y ∷ []) ≡ z
      by (Two Add) e = (same_value-Decides _ z).0 e
      by (Two Sub) e = (same_value-Decides _ z).0 e
      by (Two Mul) e = (same_value-Decides _ z).0 e
      by _ e = absurd (cc)
  sum_rule i p q j li lp lq lj n a _ _ _ ea eb ec ed e m k = absurd (cc)

  -- the order of two constants
  order_rule : (i j : ℕ) → i < count ts → j < count ts → (a b : Head) → (node_at ts i).head ≡ a → (node_at ts j).head ≡ b → are_below o a b ≡ true → AreBelow o (v i) (v j)
  order_rule i j li lj (Const (Level x)) (Const (Level y)) ea eb e =
      let t = both_hold _ _ e in
      let g = both_hold _ _ t.0 in
      below_of (v i) (v j) x y (constant_value r ts v h i li (Level x) ea) (constant_value r ts v h j lj (Level y) eb) ((Decides-ltb x o.count).0 g.0) ((Decides-ltb y o.count).0 g.1) t.1
  order_rule i j li lj _ _ ea eb e = absurd (cc)

  -- the least and the greatest level
  end_rule : (i j : ℕ) → i < count ts → j < count ts → IsLevel o (v i) → IsLevel o (v j)
      → (is_constant_of (bottom_level o) (node_at ts i).head ≡ true) ⊎ (is_constant_of (top_level o) (node_at ts j).head ≡ true) → AreBelow o (v i) (v j)
  end_rule i j li lj a b (inl e) =
      below_of (v i) (v j) (bottom_level o) b.0 (constant_level (bottom_level o) i li e) b.1 h.over.lattice.bottom_is_level b.2 (h.over.lattice.bottom_is_least b.0 b.2)
  end_rule i j li lj a b (inr e) =
      below_of (v i) (v j) a.0 (top_level o) a.1 (constant_level (top_level o) j lj e) a.2 h.over.lattice.top_is_level (h.over.lattice.top_is_greatest a.0 a.2)

  -- bounds
  lub_above : (i j : ℕ) → j < count ts → is_two Lub (node_at ts j) ≡ true → is_part i (node_at ts j) ≡ true → AreBelow o (v i) (v j)
  lub_above i j lj e s =
      let a = two_levels Lub j lj e refl in
      let x = a.0 in let y = a.1 in
      let b = h.over.lattice.lubs x.0 y.0 x.2 y.2 in
      let w = lub_value j lj e x.0 y.0 x.1 y.1 in
      ⊎_elim (λ (q : v (arg ts j 0) ≡ v i). below_of (v i) (v j) x.0 (join o x.0 y.0) (sym q ∙ x.1) w x.2 b.level b.left)
      (λ (q : v (arg ts j 1) ≡ v i). below_of (v i) (v j) y.0 (join o x.0 y.0) (sym q ∙ y.1) w y.2 b.level b.right) (part_of i j s)

  lub_least : (i j : ℕ) → i < count ts → is_two Lub (node_at ts i) ≡ true → AreBelow o (v (arg ts i 0)) (v j) → AreBelow o (v (arg ts i 1)) (v j) → AreBelow o (v i) (v j)
  lub_least i j li e a c =
      let x = a.low in let y = c.low in let z = a.high in
      let b = h.over.lattice.lubs x.0 y.0 x.2 y.2 in
      below_of (v i) (v j) (join o x.0 y.0) z.0 (lub_value i li e x.0 y.0 x.1 y.1) z.1 b.level z.2 (b.least z.0 z.2 a.below (below_numbers _ _ y.0 z.0 y.1 z.1 c))

  glb_below : (i j : ℕ) → i < count ts → is_two Glb (node_at ts i) ≡ true → is_part j (node_at ts i) ≡ true → AreBelow o (v i) (v j)
  glb_below i j li e s =
      let a = two_levels Glb i li e refl in
      let x = a.0 in let y = a.1 in
      let b = h.over.lattice.glbs x.0 y.0 x.2 y.2 in
      let w = glb_value i li e x.0 y.0 x.1 y.1 in
      ⊎_elim (λ (q : v (arg ts i 0) ≡ v j). below_of (v i) (v j) (meet o x.0 y.0) x.0 w (sym q ∙ x.1) b.level x.2 b.left)
      (λ (q : v (arg ts i 1) ≡ v j). below_of (v i) (v j) (meet o x.0 y.0) y.0 w (sym q ∙ y.1) b.level y.2 b.right) (part_of j i s)

  glb_greatest : (i j : ℕ) → j < count ts → is_two Glb (node_at ts j) ≡ true → AreBelow o (v i) (v (arg ts j 0)) → AreBelow o (v i) (v (arg ts j 1)) → AreBelow o (v i) (v j)
  glb_greatest i j lj e a c =
      let x = a.high in let y = c.high in let z = a.low in
      let b = h.over.lattice.glbs x.0 y.0 x.2 y.2 in
      below_of (v i) (v j) z.0 (meet o x.0 y.0) z.1 (glb_value j lj e x.0 y.0 x.1 y.1) z.2 b.level (b.greatest z.0 z.2 a.below (below_numbers _ _ z.0 y.0 z.1 y.1 c))

  -- comparisons
  le_true : (p : ℕ) → p < count ts → is_two LevelLe (node_at ts p) ≡ true → v p ≡ Truth true → AreBelow o (v (arg ts p 0)) (v (arg ts p 1))
  le_true p lp e m =
      let a = two_levels LevelLe p lp e refl in
      let x = a.0 in let y = a.1 in
      below_of _ _ x.0 y.0 x.1 y.1 x.2 y.2 (ap is_true (sym (le_value p lp e x.0 y.0 x.1 y.1) ∙ m))

  true_le : (i : ℕ) → i < count ts → is_two LevelLe (node_at ts i) ≡ true → AreBelow o (v (arg ts i 0)) (v (arg ts i 1)) → v i ≡ Truth true
  true_le i li e a = le_value i li e a.low.0 a.high.0 a.low.1 a.high.1 ∙ ap Truth a.below

  same_true : (p : ℕ) → p < count ts → is_two Same (node_at ts p) ≡ true → v p ≡ Truth true → v (arg ts p 0) ≡ v (arg ts p 1)
  same_true p lp e m = (same_value-Decides _ _).0 (ap is_true (sym (two_value r ts v h Same p lp e) ∙ m))

  -- congruence: a head gives one value at equal values
  alike_rule : (i j : ℕ) → i < count ts → j < count ts → are_alike (node_at ts i) (node_at ts j) ≡ true → (first : Bool) → Met (Arguments i j) first → v i ≡ v j
  alike_rule i j li lj e first m =
      let a = both_hold (same_head (node_at ts i).head (node_at ts j).head) ((node_at ts i).count == (node_at ts j).count) e in
      let n : (node_at ts i).count ≡ (node_at ts j).count = eqb-true (node_at ts i).count (node_at ts j).count a.1 in
      known_form r ts v h i li (node_at ts j).head (node_at ts j).count (same_head-is (node_at ts i).head (node_at ts j).head a.0) n
      ∙ ap (meaning r (node_at ts j).head) (first_same (node_at ts j).count (λ k. v (arg ts i k)) (λ k. v (arg ts j k)) (λ k l. m (Eq (arg ts i k) (arg ts j k)) (k, subst (λ c. k < c) (sym n) l, refl)))
      ∙ sym (h.values j lj)

  -- all rules
  pub rule_holds : (k : Rule) (f : Fact) (p q : ℕ) (first : Bool) → fits ts k f p q ≡ true → in_range (count ts) f ≡ true → p < count ts → q < count ts
      → Met (premises ts k f p q) first → Holds ts.lattice v f
  rule_holds K1 (Eq i j) p q first e w lp lq m = ap v (eqb-true i j (both_hold _ _ e).1)
  rule_holds K2 (Eq i j) p q first e w lp lq m = sym (m (Eq j i) refl)
  rule_holds K3 (Eq i j) p q first e w lp lq m = m (Eq i p) (inl refl) ∙ m (Eq p j) (inr refl)
  rule_holds K4 (Eq i j) p q first e w lp lq m = alike_rule i j (left_in i j w) (right_in i j w) (both_hold _ _ e).1 first m
  rule_holds K5 (Eq i j) p q first e w lp lq m =
      let a = both_hold _ _ e in let b = both_hold _ _ a.0 in let c = both_hold _ _ b.0 in
      sym (ap v (eqb-true (arg ts p 0) i b.1)) ∙ same_true p lp c.1 (m (Eq p 0) refl ∙ h.true_first) ∙ ap v (eqb-true (arg ts p 1) j a.1)
  rule_holds K6 (Eq i j) p q first e w lp lq m =
      let a = both_hold _ _ e in let b = both_hold _ _ a.0 in
      two_value r ts v h Same i (left_in i j w) a.1 ∙ ap Truth ((same_value-Decides _ _).1 (m (Eq (arg ts i 0) (arg ts i 1)) refl)) ∙ sym h.true_first ∙ sym (ap v (eqb-true j 0 b.1))
  rule_holds K7 (Le i j) p q first e w lp lq m =
      let a = both_hold _ _ e in let b = both_hold _ _ a.0 in
      below_equal (v i) (v j) (h.level_terms i (left_in i j w) a.1) (ap v (eqb-true i j b.1))
  rule_holds K8 (Le i j) p q first e w lp lq m = below_through (v i) (v p) (v j) (m (Le i p) (inl refl)) (m (Le p j) (inr refl))
  rule_holds K9 (Le i j) p q first e w lp lq m =
      let a = both_hold _ _ e in let b = both_hold _ _ a.0 in
      below_equal (v i) (v j) (h.level_terms i (left_in i j w) b.1) (m (Eq i j) refl)
  rule_holds K10 (Eq i j) p q first e w lp lq m = below_both (v i) (v j) (m (Le i j) (inl refl)) (m (Le j i) (inr refl))
  rule_holds K11 (Le i j) p q first e w lp lq m = order_rule i j (left_in i j w) (right_in i j w) (node_at ts i).head (node_at ts j).head refl refl (both_hold _ _ e).1
  rule_holds K12 (Le i j) p q first e w lp lq m =
      let a = both_hold _ _ e in let b = both_hold _ _ a.0 in let c = both_hold _ _ b.0 in
      end_rule i j (left_in i j w) (right_in i j w) (h.level_terms i (left_in i j w) c.1) (h.level_terms j (right_in i j w) b.1) (one_holds _ _ a.1)
  rule_holds K13 (Le i j) p q first e w lp lq m =
      let a = both_hold _ _ e in let b = both_hold _ _ a.0 in
      lub_above i j (right_in i j w) b.1 a.1
  rule_holds K14 (Le i j) p q first e w lp lq m =
      lub_least i j (left_in i j w) (both_hold _ _ e).1 (m (Le (arg ts i 0) j) (inl refl)) (m (Le (arg ts i 1) j) (inr refl))
  rule_holds K15 (Le i j) p q first e w lp lq m =
      let a = both_hold _ _ e in let b = both_hold _ _ a.0 in
      glb_below i j (left_in i j w) b.1 a.1
  rule_holds K16 (Le i j) p q first e w lp lq m =
      glb_greatest i j (right_in i j w) (both_hold _ _ e).1 (m (Le i (arg ts j 0)) (inl refl)) (m (Le i (arg ts j 1)) (inr refl))
  rule_holds K17 (Le i j) p q first e w lp lq m =
      let a = both_hold _ _ e in let b = both_hold _ _ a.0 in let c = both_hold _ _ b.0 in
      subst (λ x. AreBelow o x (v j)) (ap v (eqb-true (arg ts p 0) i b.1)) (subst (λ x. AreBelow o (v (arg ts p 0)) x) (ap v (eqb-true (arg ts p 1) j a.1)) (le_true p lp c.1 (m (Eq p 0) refl ∙ h.true_first)))
  rule_holds K18 (Eq i j) p q first e w lp lq m =
      let a = both_hold _ _ e in let b = both_hold _ _ a.0 in
      true_le i (left_in i j w) a.1 (m (Le (arg ts i 0) (arg ts i 1)) refl) ∙ sym h.true_first ∙ sym (ap v (eqb-true j 0 b.1))
  rule_holds K19 (Eq i j) p q first e w lp lq m =
      let a = both_hold _ _ e in let b = both_hold _ _ a.0 in
      not_rule i j p (left_in i j w) ((Decides-ltb j 2).0 b.1) lp (eqb p 0) a.1 (m (Eq (cond (eqb p 0) (arg ts i 0) p) (1 - j)) refl)
  rule_holds K20 (Eq i j) p q first e w lp lq m =
      let a = both_hold _ _ e in let b = both_hold _ _ a.0 in
      and_rule i j p (left_in i j w) ((Decides-ltb j 2).0 b.1) lp (eqb p 0) first a.1 m
  rule_holds K21 (Eq i j) p q first e w lp lq m =
      let a = both_hold _ _ e in let b = both_hold _ _ a.0 in
      or_rule i j p (left_in i j w) ((Decides-ltb j 2).0 b.1) lp (eqb p 0) first a.1 m
  rule_holds K22 (Eq i j) p q first e w lp lq m =
      let a = both_hold _ _ e in let b = both_hold _ _ a.0 in
      if_rule i j (left_in i j w) b.1 first (eqb (arg ts i 1) j) (eqb (arg ts i 2) j) refl refl a.1 m
  rule_holds K23 (Eq i j) p q first e w lp lq m =
      let a = both_hold _ _ e in
      sum_rule i p q j (left_in i j w) lp lq (right_in i j w) (eqb-true (node_at ts i).count 2 a.0) (node_at ts i).head (node_at ts p).head (node_at ts q).head (node_at ts j).head refl refl refl refl a.1
      (m (Eq (arg ts i 0) p) (inl refl)) (m (Eq (arg ts i 1) q) (inr refl))
  rule_holds _ _ p q first e w lp lq m = absurd (cc)

  -- a clash holds under no reading
  pub no_clash : (f : Fact) → is_clash ts f ≡ true → Holds ts.lattice v f → ⊥
  no_clash (Eq i j) e m =
      let a = both_hold _ _ e in
      by (left_in i j a.0) (right_in i j a.0) (node_at ts i).head (node_at ts j).head refl refl a.1
    where
      by : i < count ts → j < count ts → (a b : Head) → (node_at ts i).head ≡ a → (node_at ts j).head ≡ b → are_apart a b ≡ true → ⊥
      by li lj (Const x) (Const y) ea eb g =
          let s : x ≡ y = sym (constant_value r ts v h i li x ea) ∙ m ∙ constant_value r ts v h j lj y eb in
          let t : same_value x y ≡ true = (same_value-Decides x y).1 s in
          absurd (cc)
      by li lj _ _ ea eb g = absurd (cc)
  no_clash (Le i j) e m =
      let a = both_hold _ _ e in
      by (left_in i j a.0) (right_in i j a.0) (node_at ts i).head (node_at ts j).head refl refl a.1
    where
      by : i < count ts → j < count ts → (a b : Head) → (node_at ts i).head ≡ a → (node_at ts j).head ≡ b → are_denied o a b ≡ true → ⊥
      by li lj (Const (Level x)) (Const (Level y)) ea eb g =
          let s = constant_value r ts v h i li (Level x) ea in
          let t = constant_value r ts v h j lj (Level y) eb in
          let w = below_numbers (v i) (v j) x y s t m in
          let k = (Decides-ltb x o.count).1 (subst (λ n. n < o.count) (level_same m.low.0 x (sym m.low.1 ∙ s)) m.low.2) in
          let l = (Decides-ltb y o.count).1 (subst (λ n. n < o.count) (level_same m.high.0 y (sym m.high.1 ∙ t)) m.high.2) in
          let all : (ltb x o.count && ltb y o.count && is_below o x y) ≡ true = (λ u. k u && l u && w u) in
          absurd (cc)
      by li lj _ _ ea eb g = absurd (cc)
