use Rattle.std.proofs.Common.{◌++◌, ◌∷◌, [], take, sym, ap, ◌∙◌, arith}
use Rattle.std.proofs.lemmas.List.{take_more}
use Rattle.std.proofs.lemmas.Option.{get_or_from_slice_get}
use Rattle.sp_pool.specs.declared.node.Node.{Node}
use Rattle.sp_rules.specs.Terms.{blank}
use Rattle.sp_rules.proofs.terms.nodes_of.Goals as goal

pub loop-i-preserved : goal.loop-i-preserved
loop-i-preserved c =
    let pool = c.args.pool.now in
    let i = c.loop-i.i in
    c.in_ok-push.ensures.items ∙ ap (λ xs. xs ++ c.node.result ∷ []) c.loop-i.invariant
    ∙ ap (λ (n : Node). take i pool ++ n ∷ []) (sym (get_or_from_slice_get pool i c.node.result blank c.node.ensures.node)) ∙ sym (take_more pool i blank (omega arith))
