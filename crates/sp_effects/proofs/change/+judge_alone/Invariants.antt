use Rattle.sp_effects.proofs.change.+judge_alone.Given as goal

abbrev pub decreases-judge_alone : goal.decreases-judge_alone
decreases-judge_alone l = l.more
