use Rattle.sp_stepping.proofs.FaultLemmas.{no_fault}
use Rattle.sp_stepping.proofs.laws.fault_law.Goals as goal

pub returns : goal.returns
returns c m s i a t e step h = no_fault c.order_law.ensures c.clash_law.ensures c.count_law.ensures m s i a t e step h
