use Rattle.std.proofs.Common.{map}
use Rattle.sp_core.specs.Tree.{tree, trees_of}
use Rattle.sp_sequent.proofs.Weights.{weight, weights}
use Rattle.sp_formulas.proofs.adding.+spend.Given as goal

abbrev pub decreases-spend : goal.decreases-spend
decreases-spend l = weight (tree l.e.now)

abbrev pub decreases-spend_all : goal.decreases-spend_all
decreases-spend_all l = weights (trees_of (map tree l.parts.now))
