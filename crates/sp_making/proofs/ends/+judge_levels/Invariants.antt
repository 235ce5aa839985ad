use Rattle.std.proofs.Common.{length}
use Rattle.sp_making.proofs.ends.+judge_levels.Given as goal

abbrev pub decreases-judge_levels : goal.decreases-judge_levels
decreases-judge_levels l = length l.xs.now
