use Rattle.std.proofs.Common.{ℕ, ◌+◌, ◌++◌, ◌∷◌, [], List, sym, ap, ◌∙◌, subst}
use Rattle.std.specs.Prelude.{is_ok, cond}
use Rattle.sp_saturate.specs.Situations.{supposed}
use Rattle.sp_prover.specs.Deciding.{AreUndeterminedBelow}
use Rattle.sp_prover.proofs.Places.{determined_next, undetermined_next}
use Rattle.sp_prover.proofs.exploring.put_undetermined.Goals as goal

pub returns-then-is_settled-clause-below : goal.returns-then-is_settled-clause-below
returns-then-is_settled-clause-below c =
    let s = c.args.facts.now in
    determined_next s.question.terms (supposed s) s.question.atoms c.args.atom c.args.places.now.items c.requires.below (c.is_settled.ensures.0 c.if-is_settled.true)

pub returns-clause-below : goal.returns-clause-below
returns-clause-below c =
    let s = c.args.facts.now in
    let old = c.args.places.now.items in
    subst (λ (xs : List ℕ). AreUndeterminedBelow s.question.terms (supposed s) s.question.atoms (c.args.atom + 1) xs)
    (sym (c.push.ensures.items ∙ ap (λ b. cond b (old ++ c.args.atom ∷ []) old) (ap is_ok c.in_ok-push.was)))
    (undetermined_next s.question.terms (supposed s) s.question.atoms c.args.atom old c.requires.below (λ d. absurd (cc (c.is_settled.ensures.1 d, c.if-is_settled.false))))
