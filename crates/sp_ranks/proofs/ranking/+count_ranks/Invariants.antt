use Rattle.std.proofs.Common.{length}
use Rattle.sp_ranks.proofs.ranking.+count_ranks.Given as goal

abbrev pub decreases-count_ranks : goal.decreases-count_ranks
decreases-count_ranks l = length l.ranks.now
