use Rattle.std.proofs.Common.{◌≡◌, ◌+◌, ◌*◌, map, take}
use Rattle.sp_core.specs.Tree.{tree, trees_of}
use Rattle.sp_sequent.proofs.Weights.{weight, weights}
use Rattle.sp_formulas.specs.Moves.{put}
use Rattle.sp_formulas.proofs.moves.+put.Given as goal

abbrev pub decreases-with_arguments : goal.decreases-with_arguments
decreases-with_arguments l = 2 * weight (tree l.e.now)

abbrev pub decreases-put_boxed : goal.decreases-put_boxed
decreases-put_boxed l = 2 * weight (tree l.e.now) + 1

abbrev pub decreases-put_all : goal.decreases-put_all
decreases-put_all l = 2 * weights (trees_of (map tree l.parts.now)) + 1

abbrev pub invariant-put_all-loop-part : goal.invariant-put_all-loop-part
invariant-put_all-loop-part l = map tree l.all ≡ map (put (trees_of (map tree l.args))) (map tree (take l.part-index l.parts))
