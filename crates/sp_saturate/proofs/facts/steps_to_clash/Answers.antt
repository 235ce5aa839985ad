use Rattle.std.proofs.Common.{◌≡◌, ◌≤◌, ◌<◌, ◌*◌, ⊎_elim, ◌++◌, ℕ, true, List, get_or, length, sym, ◌∙◌, subst, arith}
use Rattle.std.specs.Prelude.{All, IsTrue}
use Rattle.std.proofs.lemmas.List.Elements.{All-append}
use Rattle.sp_rules.specs.Clash.{is_clash}
use Rattle.sp_rules.specs.Facts.{is_one_of}
use Rattle.sp_rules.specs.Laws.{AreIn}
use Rattle.sp_rules.specs.Questions.{is_truth_below}
use Rattle.sp_rules.specs.Table.{in_range}
use Rattle.sp_rules.specs.Terms.{Terms, count}
use Rattle.sp_rules.specs.declared.fact.Fact.{Fact}
use Rattle.sp_rules.specs.declared.fact.Fact.TheVariants.{Eq, Le}
use Rattle.sp_rules.specs.declared.fact.Step.{Step}
use Rattle.sp_saturate.specs.Accepted.{AreAccepted, EndInClash}
use Rattle.sp_saturate.specs.Front.{AreFront, turned}
use Rattle.sp_saturate.specs.Steps.{on, given_on}
use Rattle.sp_saturate.specs.Trail.{Found}
use Rattle.sp_saturate.proofs.Clashing.{turned_some}
use Rattle.sp_saturate.proofs.Levels.{no_order, truths_within}
use Rattle.sp_saturate.proofs.Parts.{no_step}
use Rattle.sp_saturate.proofs.StepLemmas.{accepted_over}
use Rattle.sp_saturate.proofs.facts.steps_to_clash.Goals as goal

-- a clash on the trail is one that the front ends in, where what is given are truth values
ends : (t : Found) (facts : List Fact) → All (λ f. IsTrue (is_truth_below (count t.terms) f)) facts → AreIn (given_on t.steps) (is_one_of facts) → (steps : List Step) → AreFront t steps
    → (f : Fact) → on t.steps f ≡ true → is_clash t.terms f ≡ true → EndInClash t.terms steps
ends t facts truths only steps h (Eq i j) e c = ⊎_elim (λ x. x) (λ (g : (given_on t.steps (Eq i j) ≡ true) × (turned t.terms (Eq i j) ≡ no_step)). turned_some t.terms i j c g.1) (h.ends (Eq i j) e c)
ends t facts truths only steps h (Le i j) e c =
    ⊎_elim (λ x. x) (λ (g : (given_on t.steps (Le i j) ≡ true) × (turned t.terms (Le i j) ≡ no_step)). absurd (cc (sym (only (Le i j) g.0) ∙ no_order (count t.terms) facts truths i j))) (h.ends (Le i j) e c)

-- the facts of a list speak of terms
abbrev AreInRange : Terms → List Fact → Type 0
AreInRange ts fs = (k : ℕ) → k < length fs → in_range (count ts) (get_or fs k (Eq 0 0)) ≡ true

pub replayed-requires-clause-given : goal.replayed-requires-clause-given
replayed-requires-clause-given c =
    subst (λ (ts : Terms). AreInRange ts c.args.given.now) (sym c.terms-terms.ensures) (truths_within c.args.trail.now.terms c.requires.two c.args.given.now c.requires.given)

pub replayed-requires-clause-assumed : goal.replayed-requires-clause-assumed
replayed-requires-clause-assumed c =
    subst (λ (ts : Terms). AreInRange ts c.args.assumed.now) (sym c.terms-terms.ensures) (truths_within c.args.trail.now.terms c.requires.two c.args.assumed.now c.requires.assumed)

pub returns-then-ends_in_clash-clause-accepted : goal.returns-then-ends_in_clash-clause-accepted
returns-then-ends_in_clash-clause-accepted c =
    subst (λ (ts : Terms). AreAccepted ts (is_one_of (c.args.given.now ++ c.args.assumed.now)) c.in_ok-pruned.pruned.items) c.terms-terms.ensures c.in_ok-pruned.ensures.accepted

pub returns-then-ends_in_clash-clause-few : goal.returns-then-ends_in_clash-clause-few
returns-then-ends_in_clash-clause-few c =
    subst (λ (ts : Terms). length c.in_ok-pruned.pruned.items ≤ 2 * (count ts * count ts)) c.terms-terms.ensures c.in_ok-pruned.ensures.few

pub returns-then-ends_in_clash-clause-ends : goal.returns-then-ends_in_clash-clause-ends
returns-then-ends_in_clash-clause-ends c =
    λ clash. subst (λ (ts : Terms). EndInClash ts c.in_ok-pruned.pruned.items) c.terms-terms.ensures
    (subst (λ (ss : List Step). EndInClash c.terms-terms.result.now ss) c.deref-3.ensures.value (c.ends_in_clash.ensures.0 c.if-ends_in_clash.true))

pub returns-clause-accepted : goal.returns-clause-accepted
returns-clause-accepted c =
    let t = c.args.trail.now in
    accepted_over t.terms (given_on t.steps) (is_one_of (c.args.given.now ++ c.args.assumed.now)) c.requires.from c.in_ok-whole.whole.items c.in_ok-whole.ensures.accepted

pub returns-clause-few : goal.returns-clause-few
returns-clause-few c = omega (arith, c.in_ok-whole.ensures.few, c.tell_few.ensures)

pub returns-clause-ends : goal.returns-clause-ends
returns-clause-ends c =
    let t = c.args.trail.now in
    λ clash. ends t (c.args.given.now ++ c.args.assumed.now) (All-append (λ f. IsTrue (is_truth_below (count t.terms) f)) c.args.given.now c.args.assumed.now c.requires.given c.requires.assumed)
    c.requires.from c.in_ok-whole.whole.items c.in_ok-whole.ensures clash.0 clash.1 clash.2
