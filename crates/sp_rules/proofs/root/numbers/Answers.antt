use Rattle.std.proofs.Common.{◌++◌, ◌∷◌, [], take, get_or, sym, ap, ◌∙◌, arith}
use Rattle.std.proofs.lemmas.List.{map-append, take_more}
use Rattle.sp_pool.specs.declared.node.TermId.{TermId}
use Rattle.sp_pool.specs.Nodes.{term}
use Rattle.sp_rules.specs.Questions.{numbers}
use Rattle.sp_rules.proofs.root.numbers.Goals as goal

pub loop-term-preserved : goal.loop-term-preserved
loop-term-preserved c =
    let terms = c.args.terms.now in
    let i = c.loop-term.term-index in
    c.in_ok-push.ensures.items ∙ ap (λ xs. xs ++ (get_or terms i (term 0)).0 ∷ []) c.loop-term.invariant
    ∙ sym (ap numbers (take_more terms i (term 0) (omega arith)) ∙ map-append (λ (t : TermId). t.0) (take i terms) (get_or terms i (term 0) ∷ []))
