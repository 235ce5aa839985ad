use Rattle.sp_frame.proofs.Connective.{prints_last}
use Rattle.sp_compare_command.specs.Compare.{CompareDone}
use Rattle.sp_compare_command.proofs.compare.compare_command.Goals as goal

pub returns : goal.returns
unfolding CompareDone
returns g c = prints_last _ _ _ _ _ _ _ _ _ _ c.in_ok-texts.ensures c.compare_work.ensures c.as_loading.ensures
