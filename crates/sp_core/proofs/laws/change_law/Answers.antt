use Rattle.sp_core.proofs.StatesTyped.{change_entry}
use Rattle.sp_core.proofs.laws.change_law.Goals as goal

pub returns : goal.returns
returns c = λ p i wf inst s u state new_state inv f call a cs of bound. change_entry p i wf inst inv f call s u state new_state a cs of bound
