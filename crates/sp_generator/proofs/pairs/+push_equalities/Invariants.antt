use Rattle.std.proofs.Common.{length}
use Rattle.sp_generator.proofs.pairs.+push_equalities.Given as goal

abbrev pub decreases-push_equalities : goal.decreases-push_equalities
decreases-push_equalities l = length l.firsts.now
