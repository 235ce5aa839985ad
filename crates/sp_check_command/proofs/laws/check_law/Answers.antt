use Rattle.sp_check_command.proofs.Lawful.{check_lawful}
use Rattle.sp_check_command.proofs.laws.check_law.Goals as goal

pub returns : goal.returns
returns c = λ files interface. check_lawful files interface
