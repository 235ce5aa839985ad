-- A clash is one the other way round. Steps none of which gives a clash.
use Rattle.std.proofs.Common.{◌≡◌, ℕ, suc, ◌<◌, not, Bool, true, false, ltb, cond, refl, sym, ap, ◌∙◌, Some, None, List, [], ◌∷◌, length, ⊎_elim, arith}
use Rattle.sp_values.specs.declared.value.Value.{Value}
use Rattle.sp_pool.specs.declared.node.Head.{Head}
use Rattle.sp_pool.specs.declared.node.Head.TheVariants.{Const}
use Rattle.sp_rules.specs.Terms.{Terms, count, node_at}
use Rattle.sp_rules.specs.Facts.{is_fact}
use Rattle.sp_rules.specs.declared.fact.Fact.{Fact}
use Rattle.sp_rules.specs.declared.fact.Fact.TheVariants.{Eq}
use Rattle.sp_rules.specs.declared.fact.Step.{Step}
use Rattle.sp_saturate.specs.Steps.{on, step_at}
use Rattle.sp_saturate.specs.Front.{turned}
use Rattle.sp_saturate.proofs.Parts.{no_step}
use Rattle.sp_values.specs.Identity.{same_value, same_value-Decides}
use Rattle.sp_rules.specs.Clash.{are_apart, is_clash}
use Rattle.sp_rules.proofs.FactLemmas.{both_hold, both_true, is_fact-true, one_holds}

same_tests : (x y : Bool) → (x ≡ true → y ≡ true) → (y ≡ true → x ≡ true) → x ≡ y
same_tests true y f g = sym (f refl)
same_tests false true f g = g refl
same_tests false false f g = refl

same_value_turned : (a b : Value) → same_value a b ≡ same_value b a
same_value_turned a b =
    same_tests (same_value a b) (same_value b a)
    (λ e. (same_value-Decides b a).1 (sym ((same_value-Decides a b).0 e)))
    (λ e. (same_value-Decides a b).1 (sym ((same_value-Decides b a).0 e)))

apart_turned : (a b : Head) → are_apart a b ≡ true → are_apart b a ≡ true
apart_turned (Const a) (Const b) e = ap not (same_value_turned b a) ∙ e
apart_turned (Const a) _ e = absurd (cc)
apart_turned _ b e = absurd (cc)

clash_turned : (ts : Terms) (i j : ℕ) → is_clash ts (Eq i j) ≡ true → is_clash ts (Eq j i) ≡ true
clash_turned ts i j e =
    let c = both_hold _ _ e in
    let r = both_hold _ _ c.0 in
    both_true _ _ (both_true (ltb j (count ts)) (ltb i (count ts)) r.1 r.0) (apart_turned (node_at ts i).head (node_at ts j).head c.1)

-- an equality that is a clash is turned
pub turned_some : {P : Type 0} (ts : Terms) (i j : ℕ) → is_clash ts (Eq i j) ≡ true → turned ts (Eq i j) ≡ no_step → P
turned_some ts i j e n = absurd (cc (sym (ap (λ b. cond b (Some (record { fact = Eq j i; rule = 2; p = 0; q = 0 })) None) (clash_turned ts i j e)) ∙ n))

-- where no step gives a clash, none of their facts is one
pub calm_all : (ts : Terms) (steps : List Step) → ((m : ℕ) → m < length steps → is_clash ts (step_at steps m).fact ≡ false) → (f : Fact) → on steps f ≡ true → is_clash ts f ≡ false
unfolding on
calm_all ts [] calm f e = absurd (cc)
calm_all ts (x ∷ xs) calm f e =
    ⊎_elim (λ h. ap (λ g. is_clash ts g) (sym (is_fact-true x.fact f h)) ∙ calm 0 (omega arith)) (λ h. calm_all ts xs (λ m l. calm (suc m) (omega arith)) f h)
    (one_holds (is_fact x.fact f) (on xs f) e)
