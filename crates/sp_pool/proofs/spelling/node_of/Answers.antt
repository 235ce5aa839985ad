use Rattle.std.proofs.Common.{◌+◌, ◌-◌, List, length, slice_index, ap, ◌∙◌, arith}
use Rattle.std.proofs.lemmas.List.FromFn.{fill_by_all}
use Rattle.sp_pool.specs.declared.node.TermId.{TermId}
use Rattle.sp_pool.specs.declared.node.Node.{Node}
use Rattle.sp_pool.specs.declared.node.Head.{Head}
use Rattle.sp_pool.specs.Nodes.{term}
use Rattle.sp_pool.specs.Spelling.{node_of, head_of, short}
use Rattle.sp_pool.proofs.spelling.node_of.Goals as goal

pub returns : goal.returns
unfolding node_of
returns c =
    let ws = c.args.words.now in
    ap (λ (h : Head). let r : Node = record { head = h; count = length ws - 3; args = c.loop-place.args } in r) c.head_of.ensures
    ∙ ap (λ (ts : List TermId). let r : Node = record { head = head_of (slice_index ws 0) (slice_index ws 1) (slice_index ws 2); count = length ws - 3; args = ts } in r)
    (fill_by_all (λ k. term (short (slice_index ws (k + 3)))) c.loop-place.args 8 (term 0) c.loop-place.invariant.eight (λ k below. c.loop-place.invariant.filled k (omega arith)))
