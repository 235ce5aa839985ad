use Rattle.sp_hierarchy_headline.proofs.Accepted.{interface_lines}
use Rattle.sp_hierarchy_headline.proofs.hierarchy_lines_law.Goals as goal

pub returns : goal.returns
returns c = interface_lines c.came_law.ensures c.secure_law.ensures
