use Rattle.std.proofs.Common.{length}
use Rattle.sp_hierarchy_rows.proofs.rows.+is_upper.Given as goal

abbrev pub decreases-is_upper : goal.decreases-is_upper
decreases-is_upper l = length l.rows.now
