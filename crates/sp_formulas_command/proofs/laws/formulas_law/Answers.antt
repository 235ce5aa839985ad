use Rattle.sp_formulas_command.proofs.Lawful.{formulas_lawful}
use Rattle.sp_formulas_command.proofs.laws.formulas_law.Goals as goal

pub returns : goal.returns
returns c = λ files interface. formulas_lawful files interface
