use Rattle.sp_core.proofs.NewStates.{new_state}
use Rattle.sp_core.proofs.laws.new_state_law.Goals as goal

pub returns : goal.returns
returns c = λ p i wf g f there s inv t. new_state p i wf g f there s inv t
