use Rattle.sp_formula_laws.proofs.TypedFormulas.{formulas_typed}
use Rattle.sp_formula_laws.proofs.laws.formulas_are_typed.Goals as goal

pub returns : goal.returns
returns c = λ p well_formed. formulas_typed p well_formed
