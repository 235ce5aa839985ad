use Rattle.std.proofs.Common.{length}
use Rattle.sp_making.proofs.ends.+judge_modules.Given as goal

abbrev pub decreases-judge_modules : goal.decreases-judge_modules
decreases-judge_modules l = length l.modules.now
