use Rattle.sp_verify_command.proofs.Lawful.{verify_lawful}
use Rattle.sp_verify_command.proofs.laws.verify_law.Goals as goal

pub returns : goal.returns
returns c = λ files interface certs. verify_lawful files interface certs
