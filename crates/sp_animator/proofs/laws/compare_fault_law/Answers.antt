use Rattle.sp_animator.proofs.CompareFaults.{compared_fault}
use Rattle.sp_animator.proofs.laws.compare_fault_law.Goals as goal

pub returns : goal.returns
returns c m s l list d f h k = compared_fault m c.fault_law.ensures s l list d f h k
