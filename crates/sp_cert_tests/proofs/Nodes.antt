-- Nodes whose places were looked at.
use Rattle.std.proofs.Common.{◌≡◌, ℕ, ◌<◌, ◌≤◌, ◌⊎◌, ⊎_elim, ap, arith, length}
use Rattle.std.proofs.lemmas.List.{get_or_past}
use Rattle.sp_pool.specs.declared.node.Node.{Node}
use Rattle.sp_pool.specs.declared.node.TermId.{TermId}
use Rattle.sp_pool.specs.Nodes.{IsNode, arg_of, term}

below_or_not : (m n : ℕ) → (m < n) ⊎ (n ≤ m)
below_or_not m n = grind arith

-- eight places that are arguments below the count of held nodes, or 0
pub looked_at : (held : ℕ) (n : Node) → length n.args ≡ 8 → n.count ≤ 8 → ((k : ℕ) → k < 8 → k < n.count → arg_of n k < held) → ((k : ℕ) → k < 8 → n.count ≤ k → arg_of n k ≡ 0) → IsNode held n
looked_at held n eight few earlier padded = record {
  few = few;
  earlier = λ k l. earlier k (omega (arith, l, few)) l;
  padded = λ k l. ⊎_elim (λ (b : k < 8). padded k b l) (λ (g : 8 ≤ k). ap (λ (t : TermId). t.0) (get_or_past n.args k (term 0) (omega (arith, g, eight)))) (below_or_not k 8);
}
