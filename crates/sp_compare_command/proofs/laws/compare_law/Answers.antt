use Rattle.sp_compare_command.proofs.Lawful.{compare_lawful}
use Rattle.sp_compare_command.proofs.laws.compare_law.Goals as goal

pub returns : goal.returns
returns c = λ files interface instance script level. compare_lawful files c.fault_law.ensures c.one_fault_law.ensures interface instance script level
