use Rattle.sp_prove_command.proofs.Beside.{proved_secure}
use Rattle.sp_prove_command.proofs.laws.proved_law.Goals as goal

pub returns : goal.returns
returns c = proved_secure c.accepted_law.ensures c.checked_law.ensures
