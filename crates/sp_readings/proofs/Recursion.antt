-- What follows holds.
use Rattle.std.proofs.Common.{◌≡◌, ℕ, Bool, true, Option, Some, None}
use Rattle.std.proofs.lemmas.Bool.Decides.{Decides-ltb}
use Rattle.sp_values.specs.declared.value.Value.{Value}
use Rattle.sp_rules.specs.Terms.{Terms, count}
use Rattle.sp_rules.specs.Table.{are_terms, fits_by, premises_by, rule_of}
use Rattle.sp_rules.specs.Clash.{is_clash}
use Rattle.sp_rules.specs.Follows.{Follows, start, step}
use Rattle.sp_rules.specs.declared.fact.Fact.{Fact}
use Rattle.sp_rules.specs.declared.fact.Step.{Step}
use Rattle.sp_rules.specs.declared.fact.Rule.{Rule}
use Rattle.sp_readings.specs.Readings.{Holds, IsReading, Reading}
use Rattle.sp_readings.specs.Laws.{EachHolds}
use Rattle.sp_rules.proofs.FactLemmas.{both_hold}
use Rattle.sp_readings.proofs.Rules.{Met, no_clash, rule_holds}

step_holds : (r : Reading) (ts : Terms) (v : ℕ → Value) (h : IsReading r ts v) (s : Step) (first : Bool) → are_terms ts s ≡ true → (o : Option Rule) → fits_by ts s o ≡ true
    → Met r ts v h (premises_by ts s o) first → Holds ts.lattice v s.fact
step_holds r ts v h s first w None e m = absurd (cc)
step_holds r ts v h s first w (Some k) e m =
    let a = both_hold _ _ w in let b = both_hold _ _ a.0 in
    rule_holds r ts v h k s.fact s.p s.q first e b.0 ((Decides-ltb s.p (count ts)).0 b.1) ((Decides-ltb s.q (count ts)).0 a.1) m

pub followers_hold : (r : Reading) (ts : Terms) (v : ℕ → Value) → IsReading r ts v → (given : Fact → Bool) → EachHolds ts v given → (f : Fact) → Follows ts given f → Holds ts.lattice v f
followers_hold r ts v h given each f (start e) = each f e
followers_hold r ts v h given each f (step s first w e premises) =
    step_holds r ts v h s first w (rule_of s.rule) e (λ g p. followers_hold r ts v h given each g (premises g p))

pub no_clash_follows : (r : Reading) (ts : Terms) (v : ℕ → Value) → IsReading r ts v → (given : Fact → Bool) → EachHolds ts v given → (f : Fact) → is_clash ts f ≡ true → Follows ts given f → ⊥
no_clash_follows r ts v h given each f e follows = no_clash r ts v h f e (followers_hold r ts v h given each f follows)
