use Rattle.sp_core.proofs.Steps.{run_one}
use Rattle.sp_core.proofs.laws.run_law.Goals as goal

pub returns : goal.returns
returns c = run_one
