use Rattle.sp_frame.proofs.Connective.{prints_last}
use Rattle.sp_prove_command.specs.Prove.{ProveDone}
use Rattle.sp_prove_command.proofs.prove.prove_command.Goals as goal

pub returns : goal.returns
unfolding ProveDone
returns g c = prints_last _ _ _ _ _ _ _ _ _ _ c.in_ok-system.ensures c.prove_work.ensures c.as_loading.ensures
