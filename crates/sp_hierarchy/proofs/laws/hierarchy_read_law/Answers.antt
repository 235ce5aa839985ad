use Rattle.sp_hierarchy.proofs.Lawful.{hierarchy_read_lawful}
use Rattle.sp_hierarchy.proofs.laws.hierarchy_read_law.Goals as goal

pub returns : goal.returns
returns c = hierarchy_read_lawful
