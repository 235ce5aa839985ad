use Rattle.sp_scopes.proofs.Entities.{found_are_lent}
use Rattle.sp_scopes.proofs.meaning.found_are_lent.Goals as goal

pub returns : goal.returns
returns c = λ i ms h k x e f. found_are_lent i ms h k x e f
