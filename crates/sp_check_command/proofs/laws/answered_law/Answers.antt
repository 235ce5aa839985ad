use Rattle.sp_check_command.proofs.Lawful.{answered_lawful}
use Rattle.sp_check_command.proofs.laws.answered_law.Goals as goal

pub returns : goal.returns
returns c = λ files owner p. answered_lawful files owner p
