-- What the tests on heads say, and what terms of each form are worth.
use Rattle.std.proofs.Common.{◌≡◌, refl, sym, ap, ◌∙◌, rules, arith, ℕ, zero, suc, ◌<◌, not, true, ◌∷◌}
use Rattle.std.specs.Prelude.{if◌then◌else◌}
use Rattle.std.proofs.lemmas.Bool.{eqb-true}
use Rattle.sp_values.specs.declared.value.Value.{Value}
use Rattle.sp_values.specs.declared.value.Value.TheVariants.{Truth}
use Rattle.sp_values.specs.declared.value.Op.{Op}
use Rattle.sp_pool.specs.declared.node.Head.{Head}
use Rattle.sp_pool.specs.declared.node.Head.TheVariants.{Const, Var, Not, Two, If, Param, Look, New, Quant}
use Rattle.sp_core.specs.Values.{is_true, two}
use Rattle.sp_rules.specs.Terms.{Terms, arg, count, has_op, is_if, is_if_head, is_not, is_not_head, is_two, node_at, same_head, same_op}
use Rattle.sp_values.specs.Identity.{same_value-Decides}
use Rattle.sp_rules.proofs.FactLemmas.{both_hold}
use Rattle.sp_readings.specs.Readings.{IsReading, Reading, arguments, first_values, meaning}

pub same_op-is : (a b : Op) → same_op a b ≡ true → a ≡ b
same_op-is a b e = search (rules, e)

pub same_head-is : (a b : Head) → same_head a b ≡ true → a ≡ b
same_head-is (Const a) (Const b) e = ap Const ((same_value-Decides a b).0 e)
same_head-is (Var a) (Var b) e = ap Var (eqb-true a b e)
same_head-is Not Not e = refl
same_head-is (Two a) (Two b) e = ap Two (same_op-is a b e)
same_head-is If If e = refl
same_head-is (Param a) (Param b) e = ap Param (eqb-true a b e)
same_head-is (Look a) (Look b) e = ap Look (eqb-true a b e)
same_head-is (New a) (New b) e = ap New (eqb-true a b e)
same_head-is (Quant a) (Quant b) e = ap Quant (eqb-true a b e)
same_head-is _ _ e = absurd (cc)

pub has_op-is : (o : Op) (h : Head) → has_op o h ≡ true → h ≡ Two o
has_op-is o (Two a) e = ap Two (sym (same_op-is o a e))
has_op-is o _ e = absurd (cc)

pub not_head-is : (h : Head) → is_not_head h ≡ true → h ≡ Not
not_head-is Not e = refl
not_head-is _ e = absurd (cc)

pub if_head-is : (h : Head) → is_if_head h ≡ true → h ≡ If
if_head-is If e = refl
if_head-is _ e = absurd (cc)

pub first_same : (n : ℕ) (a b : ℕ → Value) → ((k : ℕ) → k < n → a k ≡ b k) → first_values n a ≡ first_values n b
first_same zero a b e = refl
first_same (suc n) a b e =
    let here = e 0 (omega arith) in
    let rest = first_same n (λ k. a (suc k)) (λ k. b (suc k)) (λ k l. e (suc k) (omega (arith, l))) in
    λ i. here i ∷ rest i

module _ (r : Reading) (ts : Terms) (v : ℕ → Value) (h : IsReading r ts v) where
  pub known_form : (i : ℕ) → i < count ts → (hd : Head) (n : ℕ) → (node_at ts i).head ≡ hd → (node_at ts i).count ≡ n
      → v i ≡ meaning r hd (first_values n (λ k. v (arg ts i k)))
  known_form i l hd n e d =
      h.values i l ∙ ap (λ x. meaning r x (arguments ts v i)) e ∙ ap (λ m. meaning r hd (first_values m (λ k. v (arg ts i k)))) d

  pub two_value : (o : Op) (i : ℕ) → i < count ts → is_two o (node_at ts i) ≡ true → v i ≡ two r.world o (v (arg ts i 0)) (v (arg ts i 1))
  two_value o i l e =
      let t = both_hold _ _ e in
      known_form i l (Two o) 2 (has_op-is o (node_at ts i).head t.0) (eqb-true (node_at ts i).count 2 t.1)

  pub not_value : (i : ℕ) → i < count ts → is_not (node_at ts i) ≡ true → v i ≡ Truth (not (is_true (v (arg ts i 0))))
  not_value i l e =
      let t = both_hold _ _ e in
      known_form i l Not 1 (not_head-is (node_at ts i).head t.0) (eqb-true (node_at ts i).count 1 t.1)

  pub if_value : (i : ℕ) → i < count ts → is_if (node_at ts i) ≡ true → v i ≡ (if is_true (v (arg ts i 0)) then v (arg ts i 1) else v (arg ts i 2))
  if_value i l e =
      let t = both_hold _ _ e in
      known_form i l If 3 (if_head-is (node_at ts i).head t.0) (eqb-true (node_at ts i).count 3 t.1)

  pub constant_value : (i : ℕ) → i < count ts → (c : Value) → (node_at ts i).head ≡ Const c → v i ≡ c
  constant_value i l c e = h.values i l ∙ ap (λ x. meaning r x (arguments ts v i)) e
