use Rattle.std.proofs.Common.{◌≡◌, List, ◌∷◌, ◌+◌, ◌-◌, ◌*◌, ◌<◌, ◌≤◌, length}
use Rattle.sp_tree.specs.declared.expr.ExprTree.{ExprTree}
use Rattle.sp_grammar.proofs.Chains.{Along}
use Rattle.sp_expression.specs.Grammar.{at}
use Rattle.sp_expression.proofs.Levels.{chain_of}
use Rattle.sp_expression.proofs.Ranks.{chain_rank, pair_rank}
use Rattle.sp_expression.proofs.Steps.{Rest}
use Rattle.sp_expression.proofs.expr.+expr.Given as goal

abbrev pub decreases-parse_args : goal.decreases-parse_args
decreases-parse_args l = 17 * l.budget + 16

abbrev pub decreases-parse_behind : goal.decreases-parse_behind
decreases-parse_behind l = 17 * l.budget + 15

abbrev pub decreases-parse_chain : goal.decreases-parse_chain
decreases-parse_chain l = 17 * l.budget + chain_rank l.chain + 1

abbrev pub decreases-parse_operand : goal.decreases-parse_operand
decreases-parse_operand l = 17 * l.budget + chain_rank l.chain

abbrev pub decreases-parse_pair : goal.decreases-parse_pair
decreases-parse_pair l = 17 * l.budget + pair_rank l.pair

abbrev pub decreases-parse_right : goal.decreases-parse_right
decreases-parse_right l = 17 * l.budget + 13

abbrev pub decreases-parse_not : goal.decreases-parse_not
decreases-parse_not l = 17 * l.budget + 7

abbrev pub decreases-parse_primary : goal.decreases-parse_primary
decreases-parse_primary l = 17 * l.budget + 1

abbrev pub decreases-parse_named : goal.decreases-parse_named
decreases-parse_named l = 17 * l.budget

abbrev pub decreases-parse_new : goal.decreases-parse_new
decreases-parse_new l = 17 * l.budget

abbrev pub decreases-parse_paren : goal.decreases-parse_paren
decreases-parse_paren l = 17 * l.budget

abbrev pub decreases-parse_if : goal.decreases-parse_if
decreases-parse_if l = 17 * l.budget

abbrev pub decreases-parse_join : goal.decreases-parse_join
decreases-parse_join l = 17 * l.budget

abbrev pub decreases-parse_quant : goal.decreases-parse_quant
decreases-parse_quant l = 17 * l.budget

abbrev pub invariant-parse_chain-loop-alloc : goal.invariant-parse_chain-loop-alloc
invariant-parse_chain-loop-alloc l = record {
  along : Along (at l.tokens) (chain_of l.tokens l.chain) l.height l.left l.start l.next;
  fits : l.height ≤ l.budget;
  moves : l.start < l.next;
  within : l.next ≤ length l.tokens;
}

abbrev pub decreases-parse_chain-loop-alloc : goal.decreases-parse_chain-loop-alloc
decreases-parse_chain-loop-alloc l = length l.tokens - l.next

abbrev pub invariant-parse_args-loop-alloc : goal.invariant-parse_args-loop-alloc
invariant-parse_args-loop-alloc l =
    (us : List ExprTree) × record {
      items : l.items.items ≡ l.head.tree ∷ us;
      rest : Rest l.tokens us l.height l.head.next l.next;
      fits : l.height ≤ l.budget;
      moves : l.head.next ≤ l.next;
      within : l.next ≤ length l.tokens;
    }

abbrev pub decreases-parse_args-loop-alloc : goal.decreases-parse_args-loop-alloc
decreases-parse_args-loop-alloc l = length l.tokens - l.next
