use Rattle.sp_hold.proofs.Flow.{flows_upward}
use Rattle.sp_hold.proofs.laws.flows_law.Goals as goal

pub returns : goal.returns
returns c = λ p i wf inst admits holds. flows_upward p i wf inst admits holds
