use Rattle.sp_hierarchy_headline.proofs.Accepted.{mapping_rows}
use Rattle.sp_hierarchy_headline.proofs.mapping_rows_law.Goals as goal

pub returns : goal.returns
returns c = mapping_rows c.came_law.ensures
