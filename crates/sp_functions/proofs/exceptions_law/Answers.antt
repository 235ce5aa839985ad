use Rattle.sp_functions.proofs.Names.{exceptions}
use Rattle.sp_functions.proofs.exceptions_law.Goals as goal

pub returns : goal.returns
returns c = exceptions
