use Rattle.sp_flow.proofs.Secure.{secure}
use Rattle.sp_flow.proofs.laws.flow_law.Goals as goal

pub returns : goal.returns
returns c = λ p wf flows i inst admissible. secure p i wf inst (flows i inst admissible)
