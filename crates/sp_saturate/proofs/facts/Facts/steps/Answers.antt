use Rattle.std.proofs.Common.{◌≡◌, ◌++◌, true, List, sym, subst, IfOk}
use Rattle.std.specs.Prelude.{All, IsTrue}
use Rattle.sp_rules.specs.Clash.{is_clash}
use Rattle.sp_rules.specs.Facts.{is_one_of}
use Rattle.sp_rules.specs.Follows.{Follows}
use Rattle.sp_rules.specs.Laws.{AreIn}
use Rattle.sp_rules.specs.Questions.{is_truth_below}
use Rattle.sp_rules.specs.Terms.{count}
use Rattle.sp_rules.specs.declared.fact.Fact.{Fact}
use Rattle.sp_saturate.specs.Accepted.{AreAccepted, EndInClash}
use Rattle.sp_saturate.specs.Looking.{HasClashOn}
use Rattle.sp_saturate.specs.Steps.{given_on}
use Rattle.sp_saturate.proofs.Levels.{level_all}
use Rattle.sp_saturate.proofs.Parts.{ok_more}
use Rattle.sp_saturate.proofs.facts.Facts.steps.Goals as goal

pub steps_to_clash-requires-clause-assumed : goal.steps_to_clash-requires-clause-assumed
steps_to_clash-requires-clause-assumed c =
    let a = c.self.inside in
    subst (λ (fs : List Fact). All (λ f. IsTrue (is_truth_below (count a.trail.terms) f)) fs) (sym c.deref.ensures.value) c.self.invariant.0.truths

pub steps_to_clash-requires-clause-from : goal.steps_to_clash-requires-clause-from
steps_to_clash-requires-clause-from c =
    let a = c.self.inside in
    subst (λ (fs : List Fact). AreIn (given_on a.trail.steps) (is_one_of (a.given.now ++ fs))) (sym c.deref.ensures.value) c.self.invariant.0.whole.given_only

pub returns-clause-accepted : goal.returns-clause-accepted
returns-clause-accepted c =
    let a = c.self.inside in
    rw (← c.self.view_is) (subst (λ (fs : List Fact). IfOk c.steps_to_clash.result (λ v. AreAccepted a.trail.terms (is_one_of (a.given.now ++ fs)) v.items)) c.deref.ensures.value c.steps_to_clash.ensures.accepted)

pub returns-clause-few : goal.returns-clause-few
returns-clause-few c = rw (← c.self.view_is) c.steps_to_clash.ensures.few

pub returns-clause-ends : goal.returns-clause-ends
returns-clause-ends c =
    let a = c.self.inside in
    let facts = a.given.now ++ a.assumed.items in
    rw (← c.self.view_is) (ok_more (λ v. HasClashOn a.trail → EndInClash a.trail.terms v.items)
    (λ v. (f : Fact) → Follows a.trail.terms (is_one_of facts) f → is_clash a.trail.terms f ≡ true → EndInClash a.trail.terms v.items)
    (λ v h f w e. h (f, level_all a.trail.terms a.trail.steps facts c.self.invariant.0.whole f w, e)) c.steps_to_clash.result c.steps_to_clash.ensures.ends)
