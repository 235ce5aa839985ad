use Rattle.sp_animator.proofs.RunLemmas.{broken}
use Rattle.sp_animator.proofs.laws.run_fault_law.Goals as goal

pub returns : goal.returns
returns c m list s as' t u r h b = broken m c.fault_law.ensures list s as' t u r h b
