use Rattle.sp_sample_command.proofs.Lawful.{loads_nothing}
use Rattle.sp_sample_command.proofs.laws.nothing_law.Goals as goal

pub returns : goal.returns
returns c = λ n. loads_nothing n
