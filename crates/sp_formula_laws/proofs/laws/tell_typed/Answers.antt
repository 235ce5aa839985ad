use Rattle.sp_formula_laws.proofs.TypedFormulas.{formulas_typed}
use Rattle.sp_formula_laws.proofs.laws.tell_typed.Goals as goal

pub returns : goal.returns
returns c = formulas_typed c.args.spec.now c.functions.ensures.well_formed
