use Rattle.sp_hierarchy_command.proofs.Lawful.{hierarchy_lawful}
use Rattle.sp_hierarchy_command.proofs.laws.hierarchy_law.Goals as goal

pub returns : goal.returns
returns c = λ files file. hierarchy_lawful files file
