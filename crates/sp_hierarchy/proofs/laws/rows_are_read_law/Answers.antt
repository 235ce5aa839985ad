use Rattle.sp_hierarchy.proofs.Known.{rows_are_read}
use Rattle.sp_hierarchy.proofs.laws.rows_are_read_law.Goals as goal

pub returns : goal.returns
returns c = rows_are_read
