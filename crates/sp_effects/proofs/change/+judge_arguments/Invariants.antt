use Rattle.std.proofs.Common.{length}
use Rattle.sp_effects.proofs.change.+judge_arguments.Given as goal

abbrev pub decreases-judge_arguments : goal.decreases-judge_arguments
decreases-judge_arguments l = length l.args.now
