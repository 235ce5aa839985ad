use Rattle.sp_stepping.proofs.FaultLemmas.{one_fault}
use Rattle.sp_stepping.proofs.laws.one_fault_law.Goals as goal

pub returns : goal.returns
returns c m s i d e h k = one_fault c.order_law.ensures c.clash_law.ensures c.count_law.ensures m s i d e h k
