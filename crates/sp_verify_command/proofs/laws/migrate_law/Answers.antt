use Rattle.sp_verify_command.proofs.Lawful.{migrate_lawful}
use Rattle.sp_verify_command.proofs.laws.migrate_law.Goals as goal

pub returns : goal.returns
returns c = λ files interface certs. migrate_lawful files interface certs
