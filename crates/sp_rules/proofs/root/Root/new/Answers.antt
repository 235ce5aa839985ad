use Rattle.std.proofs.Common.{ℕ, List, sym, subst}
use Rattle.sp_rules.specs.Questions.{IsQuestion, given_facts, numbers}
use Rattle.sp_rules.specs.declared.fact.Fact.{Fact}
use Rattle.sp_rules.proofs.QuestionLemmas.{question_is}
use Rattle.sp_rules.proofs.root.Root.new.Goals as goal

pub invariant_of-result : goal.invariant_of-result
invariant_of-result c =
    let ts = c.args.terms in
    let given = given_facts (numbers c.args.hypotheses.now) c.args.goal.0 in
    subst (λ (fs : List Fact). IsQuestion (record { terms = ts; given = fs; atoms = c.in_ok-atoms.atoms.items })) (sym c.in_ok-given.ensures)
    (subst (λ (ks : List ℕ). IsQuestion (record { terms = ts; given = given; atoms = ks })) (sym c.in_ok-atoms.ensures)
    (question_is ts c.count.ensures.small c.args.hypotheses.now c.args.goal.0 c.args.atoms.now c.requires.hypotheses c.requires.goal c.requires.atoms))
