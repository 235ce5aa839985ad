use Rattle.sp_check_command.proofs.Accepted.{answered_proved}
use Rattle.sp_check_command.proofs.laws.proved_law.Goals as goal

pub returns : goal.returns
returns c = answered_proved c.closed_claims_hold.ensures c.unwinding_law.ensures c.formulas_are_typed.ensures
