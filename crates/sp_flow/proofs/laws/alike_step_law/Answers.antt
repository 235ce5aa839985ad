use Rattle.sp_flow.proofs.AlikeSteps.{alike_step}
use Rattle.sp_flow.proofs.laws.alike_step_law.Goals as goal

pub returns : goal.returns
returns c = alike_step
