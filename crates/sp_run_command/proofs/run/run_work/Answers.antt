use Rattle.sp_frame.proofs.Connective.{prints_after}
use Rattle.sp_run_command.proofs.run.run_work.Goals as goal

pub returns : goal.returns
returns c = prints_after _ _ _ c.in_ok-prepared.prepared _ c.in_ok-prepared.ensures.does c.answered.ensures
