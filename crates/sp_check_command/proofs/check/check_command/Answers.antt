use Rattle.sp_frame.proofs.Connective.{prints_last}
use Rattle.sp_check_command.specs.Check.{CheckDone}
use Rattle.sp_check_command.proofs.check.check_command.Goals as goal

pub returns : goal.returns
unfolding CheckDone
returns g c = prints_last _ _ _ _ _ _ _ _ _ _ c.in_ok-system.ensures c.check_work.ensures c.as_loading.ensures
