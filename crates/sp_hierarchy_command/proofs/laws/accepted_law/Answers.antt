use Rattle.sp_hierarchy_command.proofs.Accepted.{hierarchies_secure}
use Rattle.sp_hierarchy_command.proofs.laws.accepted_law.Goals as goal

pub returns : goal.returns
returns c = hierarchies_secure c.proved_law.ensures c.closed_views_law.ensures
