use Rattle.std.proofs.Common.{◌≡◌, ◌++◌, ◌∷◌, ◌<◌, [], length, true, sym, ap, ◌∙◌, subst, arith}
use Rattle.sp_rules.specs.Terms.{count}
use Rattle.sp_rules.specs.Questions.{Question, is_truth_below}
use Rattle.sp_saturate.specs.Situations.{AreKept}
use Rattle.sp_saturate.specs.Trail.{Found, Extends, with_given}
use Rattle.sp_saturate.proofs.Levels.{kept_more, truth_below, truth_in_range}
use Rattle.sp_saturate.proofs.facts.Facts.assume.Goals as goal

pub give-requires : goal.give-requires
give-requires c =
    let a = c.self.inside in
    let within : c.args.atom < length a.atoms.now = rw (← c.self.view_is) at c.requires.atom in
    let below = c.self.invariant.0.question.atoms c.args.atom 0 within in
    let truth : is_truth_below (count a.trail.terms) c.truth_fact-fact.result ≡ true =
    ap (is_truth_below (count a.trail.terms)) c.truth_fact-fact.ensures ∙ truth_below (count a.trail.terms) c.atom_at.result c.args.truth (subst (λ n. n < count a.trail.terms) (sym c.atom_at.ensures) below) in
    truth_in_range a.trail.terms c.self.invariant.0.question.small.two c.truth_fact-fact.result truth

pub invariant_of-self : goal.invariant_of-self
invariant_of-self c =
    let a = c.self.inside in
    let q : Question = record { terms = a.trail.terms; given = a.given.now; atoms = a.atoms.now } in
    let fact = c.truth_fact-fact.result in
    let within : c.args.atom < length a.atoms.now = rw (← c.self.view_is) at c.requires.atom in
    let below = c.self.invariant.0.question.atoms c.args.atom 0 within in
    let truth : is_truth_below (count a.trail.terms) fact ≡ true =
    ap (is_truth_below (count a.trail.terms)) c.truth_fact-fact.ensures ∙ truth_below (count a.trail.terms) c.atom_at.result c.args.truth (subst (λ n. n < count a.trail.terms) (sym c.atom_at.ensures) below) in
    let x : Extends (record { terms = a.trail.terms; steps = with_given a.trail.steps fact }) c.close.new.trail = subst (λ (t : Found). Extends t c.close.new.trail) c.give.ensures c.close.ensures.extends in
    let fewer : length a.assumed.items < 20 = rw (← c.self.view_is) at c.requires.few in
    let new : Question = record { terms = c.close.new.trail.terms; given = a.given.now; atoms = a.atoms.now } in
    let kept : AreKept new c.close.new.trail.steps (a.assumed.items ++ fact ∷ []) (a.starts.items ++ length a.trail.steps ∷ []) =
    kept_more q a.trail.steps a.assumed.items a.starts.items c.self.invariant.0 fact truth c.close.new.trail x.terms_same x c.close.ensures.closed fewer in (
      subst (λ z. AreKept new c.close.new.trail.steps z c.push_start.new.starts.items) (sym c.push_fact.ensures.items)
          (subst (λ z. AreKept new c.close.new.trail.steps (a.assumed.items ++ fact ∷ []) z) (sym (c.push_start.ensures.items ∙ ap (λ n. a.starts.items ++ n ∷ []) c.count-start.ensures)) kept),
      omega (arith, c.self.invariant.1, c.push_fact.ensures.capacity),
      omega (arith, c.self.invariant.2, c.push_start.ensures.capacity),
    )
