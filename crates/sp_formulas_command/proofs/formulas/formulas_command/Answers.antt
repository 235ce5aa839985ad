use Rattle.sp_frame.proofs.Connective.{prints_last}
use Rattle.sp_formulas_command.specs.Formulas.{FormulasDone}
use Rattle.sp_formulas_command.proofs.formulas.formulas_command.Goals as goal

pub returns : goal.returns
unfolding FormulasDone
returns g c = prints_last _ _ _ _ _ _ _ _ _ _ c.in_ok-system.ensures c.formulas_work.ensures c.as_loading.ensures
