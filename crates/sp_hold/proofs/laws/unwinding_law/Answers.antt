use Rattle.sp_flow.proofs.Secure.{secure}
use Rattle.sp_hold.proofs.Flow.{flows_upward}
use Rattle.sp_hold.proofs.laws.unwinding_law.Goals as goal

pub returns : goal.returns
returns c = λ p wf holds i inst admits. secure p i wf inst (flows_upward p i wf inst admits (holds i inst admits))
