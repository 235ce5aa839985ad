use Rattle.sp_scopes.proofs.Entities.{one_meaning}
use Rattle.sp_scopes.proofs.meaning.have_one_meaning.Goals as goal

pub returns : goal.returns
returns c = λ i ms k x e h. one_meaning i ms k x e h
