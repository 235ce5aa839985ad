use Rattle.std.proofs.Common.{length}
use Rattle.sp_effects.proofs.change.+alone.Given as goal

abbrev pub decreases-alone : goal.decreases-alone
decreases-alone l = length l.args.now
