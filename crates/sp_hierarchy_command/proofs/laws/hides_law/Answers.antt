use Rattle.sp_hierarchy_command.proofs.Accepted.{mappings_hide}
use Rattle.sp_hierarchy_command.proofs.laws.hides_law.Goals as goal

pub returns : goal.returns
returns c = mappings_hide c.proved_law.ensures c.closed_views_law.ensures
