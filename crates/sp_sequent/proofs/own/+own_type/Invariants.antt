use Rattle.sp_core.specs.Tree.{tree}
use Rattle.sp_sequent.proofs.Weights.{weight}
use Rattle.sp_sequent.proofs.own.+own_type.Given as goal

abbrev pub decreases-own_type : goal.decreases-own_type
decreases-own_type l = weight (tree l.e.now)
