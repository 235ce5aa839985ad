use Rattle.sp_frame.proofs.Connective.{prints_last}
use Rattle.sp_hierarchy_command.specs.Hierarchy.{HierarchyDone}
use Rattle.sp_hierarchy_command.proofs.hierarchy.hierarchy_command.Goals as goal

pub returns : goal.returns
unfolding HierarchyDone
returns g c = prints_last _ _ _ _ _ _ _ _ _ _ c.in_ok-texts.ensures.loads c.hierarchy_work.ensures c.as_loading.ensures
