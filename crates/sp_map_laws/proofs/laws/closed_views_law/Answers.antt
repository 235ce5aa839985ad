use Rattle.sp_map_laws.proofs.Views.{closed_views}
use Rattle.sp_map_laws.proofs.laws.closed_views_law.Goals as goal

pub returns : goal.returns
returns c = λ p m wf mapping closed own. closed_views p wf m mapping closed own
