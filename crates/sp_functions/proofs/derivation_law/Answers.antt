use Rattle.sp_functions.proofs.Known.{derivation}
use Rattle.sp_functions.proofs.derivation_law.Goals as goal

pub returns : goal.returns
returns c = derivation
