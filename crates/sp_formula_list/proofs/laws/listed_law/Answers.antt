use Rattle.sp_formula_list.proofs.Lawful.{listed_lawful}
use Rattle.sp_formula_list.proofs.laws.listed_law.Goals as goal

pub returns : goal.returns
returns c = λ files owner p. listed_lawful files owner p
