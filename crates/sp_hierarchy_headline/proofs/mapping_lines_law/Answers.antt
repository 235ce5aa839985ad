use Rattle.sp_hierarchy_headline.proofs.Accepted.{mapping_lines}
use Rattle.sp_hierarchy_headline.proofs.mapping_lines_law.Goals as goal

pub returns : goal.returns
returns c = mapping_lines c.came_law.ensures c.hides_law.ensures
