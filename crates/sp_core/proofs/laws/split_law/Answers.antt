use Rattle.sp_core.proofs.Steps.{run_split}
use Rattle.sp_core.proofs.laws.split_law.Goals as goal

pub returns : goal.returns
returns c = run_split
