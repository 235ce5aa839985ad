use Rattle.sp_core.proofs.Agree.{alike_values}
use Rattle.sp_core.proofs.laws.alike_law.Goals as goal

pub returns : goal.returns
returns c = alike_values
