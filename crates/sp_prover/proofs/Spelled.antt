-- Certificates of steps that are accepted can be spelled.
use Rattle.std.proofs.Common.{◌≡◌, ℕ, suc, ◌<◌, ◌≤◌, ◌⊎◌, Bool, true, false, cond, eqb, List, [], ◌∷◌, length, Option, None, sym, ap, ◌∙◌, ⊎_elim, arith}
use Rattle.std.proofs.lemmas.Bool.Decides.{Decides-ltb, nat_tests}
use Rattle.sp_rules.specs.Table.{fits_by, in_range, rule_of}
use Rattle.sp_rules.specs.Terms.{Terms, count}
use Rattle.sp_rules.specs.declared.fact.Fact.{Fact}
use Rattle.sp_rules.specs.declared.fact.Fact.TheVariants.{Eq, Le}
use Rattle.sp_rules.specs.declared.fact.Rule.{Rule}
use Rattle.sp_rules.specs.declared.fact.Step.{Step}
use Rattle.sp_rules.proofs.FactLemmas.{both_hold}
use Rattle.sp_rules.proofs.Steps.{ready}
use Rattle.sp_saturate.specs.Accepted.{AreAccepted}
use Rattle.sp_saturate.specs.Steps.{on, step_at}
use Rattle.std.specs.Prelude.{◌||◌, nat_lt, take}
use Rattle.sp_cert.specs.Within.{AreSteps, IsFact, IsStep}

abbrev no_rule : Option Rule
no_rule = None

skip : {A : Type 0} (b : Bool) (x y : A) → b ≡ false → cond b x y ≡ y
skip b x y e = ap (λ c. cond c x y) e

other : (n k : ℕ) → k < n → eqb n k ≡ false
other n k l = grind (arith, nat_tests)

-- a number above 23 has no rule
none_above : (n : ℕ) → 23 < n → rule_of n ≡ no_rule
none_above n l =
    skip (eqb n 1) _ _ (other n 1 (omega (arith, l)))
    ∙ skip (eqb n 2) _ _ (other n 2 (omega (arith, l)))
    ∙ skip (eqb n 3) _ _ (other n 3 (omega (arith, l)))
    ∙ skip (eqb n 4) _ _ (other n 4 (omega (arith, l)))
    ∙ skip (eqb n 5) _ _ (other n 5 (omega (arith, l)))
    ∙ skip (eqb n 6) _ _ (other n 6 (omega (arith, l)))
    ∙ skip (eqb n 7) _ _ (other n 7 (omega (arith, l)))
    ∙ skip (eqb n 8) _ _ (other n 8 (omega (arith, l)))
    ∙ skip (eqb n 9) _ _ (other n 9 (omega (arith, l)))
    ∙ skip (eqb n 10) _ _ (other n 10 (omega (arith, l)))
    ∙ skip (eqb n 11) _ _ (other n 11 (omega (arith, l)))
    ∙ skip (eqb n 12) _ _ (other n 12 (omega (arith, l)))
    ∙ skip (eqb n 13) _ _ (other n 13 (omega (arith, l)))
    ∙ skip (eqb n 14) _ _ (other n 14 (omega (arith, l)))
    ∙ skip (eqb n 15) _ _ (other n 15 (omega (arith, l)))
    ∙ skip (eqb n 16) _ _ (other n 16 (omega (arith, l)))
    ∙ skip (eqb n 17) _ _ (other n 17 (omega (arith, l)))
    ∙ skip (eqb n 18) _ _ (other n 18 (omega (arith, l)))
    ∙ skip (eqb n 19) _ _ (other n 19 (omega (arith, l)))
    ∙ skip (eqb n 20) _ _ (other n 20 (omega (arith, l)))
    ∙ skip (eqb n 21) _ _ (other n 21 (omega (arith, l)))
    ∙ skip (eqb n 22) _ _ (other n 22 (omega (arith, l)))
    ∙ skip (eqb n 23) _ _ (other n 23 (omega (arith, l)))

-- a step of the form of its rule has one
rule_in : (ts : Terms) (s : Step) (n : ℕ) → fits_by ts s (rule_of n) ≡ true → (1 ≤ n) × (n ≤ 23)
rule_in ts s n e =
    ⊎_elim
    (λ (low : (n ≡ 0) ⊎ ((1 ≤ n) × (n ≤ 23))).
    ⊎_elim (λ (z : n ≡ 0). absurd (cc (sym e ∙ ap (λ m. fits_by ts s (rule_of m)) z))) (λ (o : (1 ≤ n) × (n ≤ 23)). o) low)
    (λ (high : 23 < n). absurd (cc (sym e ∙ ap (fits_by ts s) (none_above n high)))) (split n)
  where
    split : (n : ℕ) → ((n ≡ 0) ⊎ ((1 ≤ n) × (n ≤ 23))) ⊎ (23 < n)
    split n = grind arith

fact_in : (n : ℕ) → n ≤ 512 → (f : Fact) → in_range n f ≡ true → IsFact f
fact_in n few (Eq i j) e = let t = both_hold (nat_lt i n) (nat_lt j n) e in (omega (arith, few, (Decides-ltb i n).0 t.0), omega (arith, few, (Decides-ltb j n).0 t.1))
fact_in n few (Le i j) e = let t = both_hold (nat_lt i n) (nat_lt j n) e in (omega (arith, few, (Decides-ltb i n).0 t.0), omega (arith, few, (Decides-ltb j n).0 t.1))

each_step : (ss : List Step) → ((k : ℕ) → k < length ss → IsStep (step_at ss k)) → AreSteps ss
each_step [] all = tt
each_step (s ∷ ss) all = (all 0 (omega arith), each_step ss (λ k l. all (suc k) (omega arith)))

pub steps_spelled : (ts : Terms) (h : Fact → Bool) → count ts ≤ 512 → (ss : List Step) → AreAccepted ts h ss → AreSteps ss
steps_spelled ts h few ss a = each_step ss one
  where
    one : (k : ℕ) → k < length ss → IsStep (step_at ss k)
    one k l =
        let s = step_at ss k in
        let r = ready ts (λ f. h f || on (take k ss) f) s (a.accepted k l) in
        let t = both_hold _ _ r.are_terms_here in
        let u = both_hold _ _ t.0 in
        record {
          fact = fact_in (count ts) few s.fact u.0;
          rule = rule_in ts s s.rule r.is_formed_here;
          p = omega (arith, few, (Decides-ltb s.p (count ts)).0 u.1);
          q = omega (arith, few, (Decides-ltb s.q (count ts)).0 t.1);
        }
