use Rattle.sp_deciding.proofs.Lawful.{all_lawful}
use Rattle.sp_deciding.proofs.laws.decided_law.Goals as goal

pub returns : goal.returns
returns c = λ files owner p n os. all_lawful files owner p n os
