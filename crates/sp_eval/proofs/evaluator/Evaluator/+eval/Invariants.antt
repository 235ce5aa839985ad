use Rattle.std.proofs.Common.{◌≡◌, ◌<◌, ◌+◌, ◌*◌, ◌++◌, ◌∷◌, [], true, map, ℕ, take}
use Rattle.sp_core.specs.Measures.{nodes, nodes_in}
use Rattle.sp_core.specs.Tree.{tree, trees_of}
use Rattle.sp_core.specs.Values.{is_true}
use Rattle.sp_eval.specs.Settings.{proper_at, tree_value, tree_values}
use Rattle.sp_eval.proofs.evaluator.Evaluator.+eval.Given as goal

-- The bound falls where a function's own expression is entered, which has at most 1,024 nodes; else the nodes fall.
abbrev pub decreases-arguments : goal.decreases-arguments
decreases-arguments g l = 2050 * l.bound + (2 * nodes_in (trees_of (map tree l.parts.now)) + 1)

abbrev pub decreases-holds_for_each : goal.decreases-holds_for_each
decreases-holds_for_each g l = 2050 * l.bound + (2 * nodes (tree l.body.now) + 1)

abbrev pub decreases-look : goal.decreases-look
decreases-look g l = 2050 * l.bound

abbrev pub decreases-look_new : goal.decreases-look_new
decreases-look_new g l = 2050 * l.bound

abbrev pub decreases-value : goal.decreases-value
decreases-value g l = 2050 * l.bound + 2 * nodes (tree l.e.now)

abbrev pub invariant-arguments-loop-part : goal.invariant-arguments-loop-part
invariant-arguments-loop-part g l = l.args ≡ tree_values l.self l.env (trees_of (map tree (take l.part-index l.parts)))

abbrev pub invariant-holds_for_each-loop-number : goal.invariant-holds_for_each-loop-number
invariant-holds_for_each-loop-number g l =
    (j : ℕ) → j < l.number → is_true (tree_value l.self (l.env ++ proper_at l.ty j ∷ []) (tree l.body)) ≡ true
