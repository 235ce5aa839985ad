use Rattle.sp_frame.proofs.Connective.{prints_after}
use Rattle.sp_formulas_command.proofs.formulas.formulas_work.Goals as goal

pub returns : goal.returns
returns c = prints_after _ _ _ c.in_ok-elaborated.elaborated _ c.in_ok-elaborated.ensures c.list_printed.ensures
