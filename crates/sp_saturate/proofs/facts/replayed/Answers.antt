use Rattle.std.proofs.Common.{◌≡◌, ◌≤◌, ◌*◌, ◌++◌, ◌<◌, ℕ, get_or, length, true, sym, ap, ◌∙◌, subst, arith, IfOk}
use Rattle.sp_rules.specs.Terms.{Terms, count}
use Rattle.sp_rules.specs.Table.{in_range}
use Rattle.sp_rules.specs.Facts.{is_one_of}
use Rattle.sp_rules.specs.declared.fact.Fact.TheVariants.{Eq}
use Rattle.sp_saturate.specs.Accepted.{AreAccepted}
use Rattle.sp_saturate.specs.Front.{AreFront}
use Rattle.sp_saturate.specs.Steps.{given_on}
use Rattle.sp_saturate.specs.Trail.{Found}
use Rattle.sp_saturate.proofs.Levels.{only_given_first, replay_given}
use Rattle.sp_saturate.proofs.Parts.{ok_more}
use Rattle.sp_saturate.proofs.facts.replayed.Goals as goal
use Rattle.sp_saturate.proofs.StepLemmas.{accepted_over}

pub give_all-requires-clause-given : goal.give_all-requires-clause-given
give_all-requires-clause-given c = only_given_first c.in_ok-trail.trail c.args.terms.now c.in_ok-trail.ensures

pub give_all-requires-clause-within : goal.give_all-requires-clause-within
give_all-requires-clause-within c =
    subst (λ (t : Terms). (k : ℕ) → k < length c.args.given.now → in_range (count t) (get_or c.args.given.now k (Eq 0 0)) ≡ true) (sym (ap (λ (t : Found). t.terms) c.in_ok-trail.ensures)) c.requires.given

pub give_all-requires-2-clause-within : goal.give_all-requires-2-clause-within
give_all-requires-2-clause-within c =
    subst (λ (t : Terms). (k : ℕ) → k < length c.args.assumed.now → in_range (count t) (get_or c.args.assumed.now k (Eq 0 0)) ≡ true) (sym (c.give_all.ensures.terms ∙ ap (λ (t : Found). t.terms) c.in_ok-trail.ensures)) c.requires.assumed

pub returns-clause-accepted : goal.returns-clause-accepted
returns-clause-accepted c =
    let t = c.try_all.new.trail in
    let given = c.args.given.now ++ c.args.assumed.now in
    let ts : t.terms ≡ c.args.terms.now = c.try_all.ensures.terms_same ∙ c.give_all-2.ensures.terms ∙ c.give_all.ensures.terms ∙ ap (λ (u : Found). u.terms) c.in_ok-trail.ensures in
    subst (λ (us : Terms). IfOk c.front.result (λ v. AreAccepted us (is_one_of given) v.items)) ts
    (ok_more (λ v. AreFront t v.items) (λ v. AreAccepted t.terms (is_one_of given) v.items)
    (λ v f. accepted_over t.terms (given_on t.steps) (is_one_of given)
    (replay_given c.args.terms.now c.in_ok-trail.trail c.give_all.new.trail c.give_all-2.new.trail t c.args.given.now c.args.assumed.now c.in_ok-trail.ensures c.give_all.ensures.on c.give_all-2.ensures.on c.give_all-2.ensures.given c.try_all.ensures)
    v.items f.accepted) c.front.result c.front.ensures)

pub returns-clause-few : goal.returns-clause-few
returns-clause-few c =
    let t = c.try_all.new.trail in
    let ts : t.terms ≡ c.args.terms.now = c.try_all.ensures.terms_same ∙ c.give_all-2.ensures.terms ∙ c.give_all.ensures.terms ∙ ap (λ (u : Found). u.terms) c.in_ok-trail.ensures in
    subst (λ (us : Terms). IfOk c.front.result (λ v. length v.items ≤ 2 * (count us * count us))) ts
    (ok_more (λ v. AreFront t v.items) (λ v. length v.items ≤ 2 * (count t.terms * count t.terms)) (λ v f. omega (arith, f.few, c.tell_few.ensures)) c.front.result c.front.ensures)
