use Rattle.std.proofs.Common.{length}
use Rattle.sp_stepping.proofs.stepping.+first_true.Given as goal

abbrev pub decreases-first_true : goal.decreases-first_true
decreases-first_true l = length l.exceptions.now
