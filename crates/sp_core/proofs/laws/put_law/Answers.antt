use Rattle.sp_core.proofs.StatesTyped.{put_typed}
use Rattle.sp_core.proofs.laws.put_law.Goals as goal

pub returns : goal.returns
returns c = put_typed
