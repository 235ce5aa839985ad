use Rattle.sp_frame.proofs.Connective.{prints_after}
use Rattle.sp_hierarchy_command.proofs.hierarchy.hierarchy_work.Goals as goal

pub returns : goal.returns
returns c = prints_after _ _ _ c.in_ok-hierarchy.hierarchy _ c.in_ok-hierarchy.ensures.does c.hierarchy_answered.ensures
