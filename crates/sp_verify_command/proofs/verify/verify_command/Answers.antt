use Rattle.sp_frame.proofs.Connective.{prints_last}
use Rattle.sp_verify_command.specs.Verify.{VerifyDone}
use Rattle.sp_verify_command.proofs.verify.verify_command.Goals as goal

pub returns : goal.returns
unfolding VerifyDone
returns g c = prints_last _ _ _ _ _ _ _ _ _ _ c.in_ok-texts.ensures c.verify_work.ensures c.as_loading.ensures
