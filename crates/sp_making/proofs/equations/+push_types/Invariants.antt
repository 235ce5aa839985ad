use Rattle.std.proofs.Common.{length}
use Rattle.sp_making.proofs.equations.+push_types.Given as goal

abbrev pub decreases-push_types : goal.decreases-push_types
decreases-push_types l = length l.names.now
