use Rattle.sp_stepping.proofs.FaultLemmas.{met}
use Rattle.sp_stepping.proofs.laws.conflict_fault_law.Goals as goal

pub returns : goal.returns
returns c m s i p x y h = met c.order_law.ensures c.clash_law.ensures c.count_law.ensures m s i p x y h
