use Rattle.sp_hierarchy.proofs.Lawful.{hierarchy_judged_lawful}
use Rattle.sp_hierarchy.proofs.laws.hierarchy_judged_law.Goals as goal

pub returns : goal.returns
returns c = hierarchy_judged_lawful
