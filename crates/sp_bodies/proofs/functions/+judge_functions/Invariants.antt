use Rattle.std.proofs.Common.{length}
use Rattle.sp_bodies.proofs.functions.+judge_functions.Given as goal

abbrev pub decreases-judge_functions : goal.decreases-judge_functions
decreases-judge_functions l = length l.functions.now
