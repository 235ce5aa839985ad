use Rattle.sp_ordered.proofs.Judged.{one_judged}
use Rattle.sp_ordered.proofs.laws.order_law.Goals as goal

pub returns : goal.returns
returns c = one_judged
