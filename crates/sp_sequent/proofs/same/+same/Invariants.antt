use Rattle.std.proofs.Common.{map}
use Rattle.sp_core.specs.Tree.{tree, trees_of}
use Rattle.sp_sequent.proofs.Weights.{weight, weights}
use Rattle.sp_sequent.proofs.same.+same.Given as goal

abbrev pub decreases-same_expr : goal.decreases-same_expr
decreases-same_expr l = weight (tree l.a.now)

abbrev pub decreases-same_exprs : goal.decreases-same_exprs
decreases-same_exprs l = weights (trees_of (map tree l.ds.now))
