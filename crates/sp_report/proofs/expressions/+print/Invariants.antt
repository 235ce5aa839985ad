use Rattle.std.proofs.Common.{◌+◌, ◌*◌, map}
use Rattle.sp_core.specs.Tree.{tree, trees_of}
use Rattle.sp_sequent.proofs.Weights.{weight, weights}
use Rattle.sp_report.proofs.expressions.+print.Given as goal

abbrev pub decreases-push_expr : goal.decreases-push_expr
decreases-push_expr l = 3 * weight (tree l.e.now)

abbrev pub decreases-push_operand : goal.decreases-push_operand
decreases-push_operand l = 3 * weight (tree l.e.now) + 1

abbrev pub decreases-push_two : goal.decreases-push_two
decreases-push_two l = 3 * (weight (tree l.a.now) + weight (tree l.b.now)) + 2

abbrev pub decreases-push_choice : goal.decreases-push_choice
decreases-push_choice l = 3 * (weight (tree l.c.now) + (weight (tree l.a.now) + weight (tree l.b.now))) + 2

abbrev pub decreases-push_every : goal.decreases-push_every
decreases-push_every l = 3 * weight (tree l.a.now) + 2

abbrev pub decreases-push_call : goal.decreases-push_call
decreases-push_call l = 3 * weights (trees_of (map tree l.args.now)) + 2

abbrev pub decreases-push_list : goal.decreases-push_list
decreases-push_list l = 3 * weights (trees_of (map tree l.es.now)) + 1

abbrev pub decreases-push_rest : goal.decreases-push_rest
decreases-push_rest l = 3 * weights (trees_of (map tree l.es.now)) + 1
