use Rattle.std.proofs.Common.{map}
use Rattle.sp_core.specs.Tree.{tree, trees_of}
use Rattle.sp_sequent.proofs.Weights.{weight, weights}
use Rattle.sp_formulas.proofs.adding.+spend_put.Given as goal

abbrev pub decreases-spend_put : goal.decreases-spend_put
decreases-spend_put l = weight (tree l.e.now)

abbrev pub decreases-spend_put_all : goal.decreases-spend_put_all
decreases-spend_put_all l = weights (trees_of (map tree l.parts.now))
