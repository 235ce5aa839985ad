use Rattle.sp_scopes.proofs.Entities.{lent_are_found}
use Rattle.sp_scopes.proofs.meaning.lent_are_found.Goals as goal

pub returns : goal.returns
returns c = λ i ms h x e l. lent_are_found i ms h x e l
