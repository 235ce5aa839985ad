use Rattle.sp_core.proofs.StatesTyped.{answer_typed}
use Rattle.sp_core.proofs.laws.answer_law.Goals as goal

pub returns : goal.returns
returns c = answer_typed
