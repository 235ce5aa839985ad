use Rattle.sp_hierarchy_command.proofs.Accepted.{came_to}
use Rattle.sp_hierarchy_command.proofs.laws.came_law.Goals as goal

pub returns : goal.returns
returns c = came_to
