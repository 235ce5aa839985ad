use Rattle.std.proofs.Common.{◌≡◌, ◌<◌, ℕ, List, [], get_or, length, true, sym, ap, ◌∙◌, subst}
use Rattle.sp_rules.specs.Terms.{Terms, count}
use Rattle.sp_rules.specs.Facts.{is_one_of}
use Rattle.sp_rules.specs.Table.{in_range}
use Rattle.sp_rules.specs.declared.fact.Fact.{Fact}
use Rattle.sp_rules.specs.declared.fact.Fact.TheVariants.{Eq}
use Rattle.sp_saturate.specs.Steps.{on}
use Rattle.sp_saturate.specs.Situations.{AreKept, IsLevel}
use Rattle.sp_saturate.specs.Trail.{Found, Extends}
use Rattle.sp_saturate.proofs.Trails.{extends_then}
use Rattle.sp_saturate.proofs.Levels.{kept_first, level_first, only_given_first, on_first, truths_within}
use Rattle.sp_saturate.proofs.facts.Facts.open.Goals as goal

pub give_all-requires-clause-given : goal.give_all-requires-clause-given
give_all-requires-clause-given c = only_given_first c.in_ok-trail.trail c.terms-terms.result.now c.in_ok-trail.ensures

pub give_all-requires-clause-within : goal.give_all-requires-clause-within
give_all-requires-clause-within c =
    let q = c.args.root.now in
    let ts : c.in_ok-trail.trail.terms ≡ q.terms = ap (λ (t : Found). t.terms) c.in_ok-trail.ensures ∙ c.terms-terms.ensures in
    subst (λ (fs : List Fact). (k : ℕ) → k < length fs → in_range (count c.in_ok-trail.trail.terms) (get_or fs k (Eq 0 0)) ≡ true) (sym c.given-given.ensures)
    (subst (λ (t : Terms). (k : ℕ) → k < length q.given → in_range (count t) (get_or q.given k (Eq 0 0)) ≡ true) (sym ts)
    (truths_within q.terms c.tell_question.ensures.small.two q.given c.tell_question.ensures.given))

pub invariant_of-result : goal.invariant_of-result
invariant_of-result c =
    let q = c.args.root.now in
    let b = c.close.new.trail in
    let x : Extends c.give_all.new.trail b = extends_then _ _ _ c.start.ensures c.close.ensures.extends in
    let ts : b.terms ≡ q.terms = x.terms_same ∙ c.give_all.ensures.terms ∙ ap (λ (t : Found). t.terms) c.in_ok-trail.ensures ∙ c.terms-terms.ensures in
    let all : (f : Fact) → on c.give_all.new.trail.steps f ≡ is_one_of q.given f = λ f.
    on_first c.in_ok-trail.trail c.give_all.new.trail c.terms-terms.result.now c.given-given.result.now c.in_ok-trail.ensures c.give_all.ensures.on f ∙ ap (λ fs. is_one_of fs f) c.given-given.ensures in
    let level : IsLevel b.terms b.steps q.given = level_first c.give_all.new.trail b q.given x c.close.ensures.closed all (λ f. c.give_all.ensures.given f ∙ all f) in
    let kept : AreKept q b.steps [] [] = kept_first q b.steps c.tell_question.ensures (subst (λ t. IsLevel t b.steps q.given) ts level) in
    let there : AreKept (record { terms = b.terms; given = c.given-given.result.now; atoms = c.atoms-atoms.result.now }) b.steps [] [] =
    subst (λ (ks : List ℕ). AreKept (record { terms = b.terms; given = c.given-given.result.now; atoms = ks }) b.steps [] []) (sym c.atoms-atoms.ensures)
    (subst (λ (fs : List Fact). AreKept (record { terms = b.terms; given = fs; atoms = q.atoms }) b.steps [] []) (sym c.given-given.ensures)
    (subst (λ (t : Terms). AreKept (record { terms = t; given = q.given; atoms = q.atoms }) b.steps [] []) (sym ts) kept)) in (
      subst (λ (z : List Fact). AreKept (record { terms = b.terms; given = c.given-given.result.now; atoms = c.atoms-atoms.result.now }) b.steps z c.in_ok-starts.starts.items) (sym c.in_ok-assumed.ensures.items)
          (subst (λ (z : List ℕ). AreKept (record { terms = b.terms; given = c.given-given.result.now; atoms = c.atoms-atoms.result.now }) b.steps [] z) (sym c.in_ok-starts.ensures.items) there),
      c.in_ok-assumed.ensures.capacity,
      c.in_ok-starts.ensures.capacity,
    )
