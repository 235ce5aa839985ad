use Rattle.sp_core.proofs.Lists.{secure_by}
use Rattle.sp_core.specs.Machine.{Step}
use Rattle.sp_core.proofs.laws.list_law.Goals as goal

pub returns : goal.returns
returns c = λ m steps. secure_by m (Step m) steps
