use Rattle.sp_flow.proofs.NoConflict.{no_conflict}
use Rattle.sp_flow.proofs.laws.no_conflict_law.Goals as goal

pub returns : goal.returns
returns c = no_conflict
