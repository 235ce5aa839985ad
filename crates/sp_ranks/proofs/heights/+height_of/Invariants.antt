use Rattle.std.proofs.Common.{length}
use Rattle.sp_ranks.proofs.heights.+height_of.Given as goal

abbrev pub decreases-height_of : goal.decreases-height_of
decreases-height_of l = length l.heights.now
