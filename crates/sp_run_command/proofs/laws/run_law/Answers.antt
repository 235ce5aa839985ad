use Rattle.sp_run_command.proofs.Lawful.{run_lawful}
use Rattle.sp_run_command.proofs.laws.run_law.Goals as goal

pub returns : goal.returns
returns c = λ files interface instance script. run_lawful files c.fault_law.ensures c.one_fault_law.ensures interface instance script
