use Rattle.std.proofs.Common.{◌++◌, ◌∷◌, true, List, [], map, take, get_or, sym, ap, ◌∙◌, arith}
use Rattle.std.proofs.lemmas.List.{map-append, take_more}
use Rattle.sp_pool.specs.declared.node.TermId.{TermId}
use Rattle.sp_pool.specs.Nodes.{term}
use Rattle.sp_rules.specs.Facts.{has_truth}
use Rattle.sp_rules.specs.Questions.{numbers}
use Rattle.sp_rules.specs.declared.fact.Fact.{Fact}
use Rattle.sp_rules.proofs.root.given_facts.Goals as goal

abbrev truths : List TermId → List Fact
truths ts = map (λ h. has_truth h true) (numbers ts)

pub loop-hypothesis-preserved : goal.loop-hypothesis-preserved
loop-hypothesis-preserved c =
    let terms = c.args.hypotheses.now in
    let i = c.loop-hypothesis.hypothesis-index in
    let here = get_or terms i (term 0) in
    c.in_ok-push.ensures.items ∙ ap (λ xs. xs ++ has_truth here.0 true ∷ []) c.loop-hypothesis.invariant
    ∙ sym (ap truths (take_more terms i (term 0) (omega arith)) ∙ ap (map (λ h. has_truth h true)) (map-append (λ (t : TermId). t.0) (take i terms) (here ∷ []))
    ∙ map-append (λ h. has_truth h true) (numbers (take i terms)) (here.0 ∷ []))
