use Rattle.sp_sample_command.proofs.Lawful.{sample_lawful}
use Rattle.sp_sample_command.proofs.laws.sample_law.Goals as goal

pub returns : goal.returns
returns c = λ files n. sample_lawful files n
