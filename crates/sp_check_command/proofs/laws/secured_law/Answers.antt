use Rattle.sp_check_command.proofs.Accepted.{closed_secure}
use Rattle.sp_check_command.proofs.laws.secured_law.Goals as goal

pub returns : goal.returns
returns c = closed_secure c.closed_claims_hold.ensures c.unwinding_law.ensures c.formulas_are_typed.ensures
