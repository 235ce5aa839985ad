use Rattle.sp_hierarchy_command.proofs.Accepted.{members_secure}
use Rattle.sp_hierarchy_command.proofs.laws.secure_law.Goals as goal

pub returns : goal.returns
returns c = members_secure c.proved_law.ensures
