use Rattle.std.proofs.Common.{length}
use Rattle.sp_hierarchy_rows.proofs.rows.+lowest.Given as goal

abbrev pub decreases-lowest : goal.decreases-lowest
decreases-lowest l = length l.rows.now
