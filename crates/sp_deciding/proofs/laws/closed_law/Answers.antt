use Rattle.sp_deciding.proofs.Closed.{all_closed}
use Rattle.sp_deciding.proofs.laws.closed_law.Goals as goal

pub returns : goal.returns
returns c = λ owner p n os ds h e. all_closed owner p n os ds h e
