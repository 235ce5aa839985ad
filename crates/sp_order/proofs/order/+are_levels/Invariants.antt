use Rattle.std.proofs.Common.{length}
use Rattle.sp_order.proofs.order.+are_levels.Given as goal

abbrev pub decreases-are_levels : goal.decreases-are_levels
decreases-are_levels l = length l.pairs.now
