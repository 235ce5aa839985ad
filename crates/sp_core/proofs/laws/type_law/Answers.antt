use Rattle.sp_core.proofs.Types.{typed}
use Rattle.sp_core.proofs.laws.type_law.Goals as goal

pub returns : goal.returns
returns c = typed
