use Rattle.sp_prove_command.proofs.Lawful.{prove_lawful}
use Rattle.sp_prove_command.proofs.laws.prove_law.Goals as goal

pub returns : goal.returns
returns c = λ files interface. prove_lawful files interface
