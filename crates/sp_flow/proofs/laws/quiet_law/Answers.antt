use Rattle.sp_flow.proofs.Quiet.{quiet_step}
use Rattle.sp_flow.proofs.laws.quiet_law.Goals as goal

pub returns : goal.returns
returns c = quiet_step
