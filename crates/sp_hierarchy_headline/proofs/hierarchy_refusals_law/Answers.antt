use Rattle.sp_hierarchy_headline.proofs.Refusing.{hierarchy_refuses}
use Rattle.sp_hierarchy_headline.proofs.hierarchy_refusals_law.Goals as goal

pub returns : goal.returns
returns c = hierarchy_refuses
