use Rattle.sp_flow.proofs.NoFunctions.{no_functions}
use Rattle.sp_flow.proofs.laws.no_functions_law.Goals as goal

pub returns : goal.returns
returns c = no_functions
