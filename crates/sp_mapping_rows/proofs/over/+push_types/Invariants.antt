use Rattle.std.proofs.Common.{length}
use Rattle.sp_mapping_rows.proofs.over.+push_types.Given as goal

abbrev pub decreases-push_types : goal.decreases-push_types
decreases-push_types l = length l.names.now
