use Rattle.sp_core.proofs.Steps.{run_append}
use Rattle.sp_core.proofs.laws.join_law.Goals as goal

pub returns : goal.returns
returns c = run_append
