use Rattle.std.proofs.Common.{◌≡◌, ◌+◌, ◌*◌, map, take}
use Rattle.sp_core.specs.Tree.{tree, trees_of}
use Rattle.sp_sequent.proofs.Weights.{weight, weights}
use Rattle.sp_formulas.specs.Moves.{quantifier_number, renumbered, variable_number}
use Rattle.sp_formulas.proofs.moves.+renumber.Given as goal

abbrev pub decreases-renumber : goal.decreases-renumber
decreases-renumber l = 2 * weight (tree l.e.now)

abbrev pub decreases-renumber_boxed : goal.decreases-renumber_boxed
decreases-renumber_boxed l = 2 * weight (tree l.e.now) + 1

abbrev pub decreases-renumber_all : goal.decreases-renumber_all
decreases-renumber_all l = 2 * weights (trees_of (map tree l.parts.now)) + 1

abbrev pub invariant-renumber_all-loop-part : goal.invariant-renumber_all-loop-part
invariant-renumber_all-loop-part l = map tree l.all ≡ map (renumbered (variable_number l.how) (quantifier_number l.how)) (map tree (take l.part-index l.parts))
