use Rattle.sp_ordered.proofs.Broken.{one_list}
use Rattle.sp_ordered.proofs.laws.broken_law.Goals as goal

pub returns : goal.returns
returns c = one_list
