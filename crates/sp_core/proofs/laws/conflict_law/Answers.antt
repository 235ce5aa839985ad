use Rattle.sp_core.proofs.Steps.{no_step}
use Rattle.sp_core.proofs.laws.conflict_law.Goals as goal

pub returns : goal.returns
returns c = no_step
