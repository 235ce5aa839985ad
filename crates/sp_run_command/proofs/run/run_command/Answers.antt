use Rattle.sp_frame.proofs.Connective.{prints_last}
use Rattle.sp_run_command.specs.Run.{RunDone}
use Rattle.sp_run_command.proofs.run.run_command.Goals as goal

pub returns : goal.returns
unfolding RunDone
returns g c = prints_last _ _ _ _ _ _ _ _ _ _ c.in_ok-texts.ensures c.run_work.ensures c.as_loading.ensures
