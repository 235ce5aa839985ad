use Rattle.sp_core.proofs.StatesTyped.{step_typed}
use Rattle.sp_core.proofs.laws.state_law.Goals as goal

pub returns : goal.returns
returns c = step_typed
