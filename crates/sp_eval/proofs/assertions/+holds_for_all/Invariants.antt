use Rattle.std.proofs.Common.{◌<◌, ◌++◌, ◌∷◌, [], ℕ, length}
use Rattle.sp_core.specs.Machine.{types_of}
use Rattle.sp_core.specs.Tree.{tree}
use Rattle.sp_eval.specs.Admissible.{HoldsForAll}
use Rattle.sp_eval.specs.Settings.{proper_at, world}
use Rattle.sp_eval.proofs.assertions.+holds_for_all.Given as goal

abbrev pub decreases-holds_for_all : goal.decreases-holds_for_all
decreases-holds_for_all l = length l.vars.now

abbrev pub invariant-loop-number : goal.invariant-loop-number
invariant-loop-number l =
    (j : ℕ) → j < l.number → HoldsForAll (world l.evaluator) (types_of l.rest) (l.env ++ proper_at l.first.ty j ∷ []) (tree l.body)
