use Rattle.std.proofs.Common.{◌≡◌, ◌+◌, ◌*◌, map, take}
use Rattle.sp_core.specs.Tree.{tree, trees_of}
use Rattle.sp_sequent.proofs.Weights.{weight, weights}
use Rattle.sp_formulas.specs.Moves.{settle}
use Rattle.sp_formulas.proofs.moves.+settle.Given as goal

abbrev pub decreases-settled : goal.decreases-settled
decreases-settled l = 2 * weight (tree l.e.now)

abbrev pub decreases-settled_boxed : goal.decreases-settled_boxed
decreases-settled_boxed l = 2 * weight (tree l.e.now) + 1

abbrev pub decreases-settled_all : goal.decreases-settled_all
decreases-settled_all l = 2 * weights (trees_of (map tree l.parts.now)) + 1

abbrev pub invariant-settled_all-loop-part : goal.invariant-settled_all-loop-part
invariant-settled_all-loop-part l = map tree l.all ≡ map (settle l.n) (map tree (take l.part-index l.parts))
