use Rattle.sp_map_laws.proofs.Views.{views}
use Rattle.sp_map_laws.proofs.laws.views_law.Goals as goal

pub returns : goal.returns
returns c = λ p m wf mapping holds own. views p wf m mapping holds own
