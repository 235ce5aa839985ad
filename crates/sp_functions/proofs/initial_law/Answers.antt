use Rattle.sp_functions.proofs.Known.{initial}
use Rattle.sp_functions.proofs.initial_law.Goals as goal

pub returns : goal.returns
returns c = initial
