use Rattle.sp_prove_command.proofs.Beside.{proved_checked}
use Rattle.sp_prove_command.proofs.laws.checked_law.Goals as goal

pub returns : goal.returns
returns c = proved_checked
