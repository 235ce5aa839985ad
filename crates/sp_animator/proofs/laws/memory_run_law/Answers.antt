use Rattle.sp_animator.proofs.RunLemmas.{run_of}
use Rattle.sp_animator.proofs.laws.memory_run_law.Goals as goal

pub returns : goal.returns
returns c m list s as' t h = run_of m list s as' t h
