use Rattle.sp_core.proofs.Steps.{step_one}
use Rattle.sp_core.proofs.laws.step_law.Goals as goal

pub returns : goal.returns
returns c = step_one
