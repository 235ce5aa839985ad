use Rattle.sp_functions.proofs.Asserted.{assertion}
use Rattle.sp_functions.proofs.assertion_law.Goals as goal

pub returns : goal.returns
returns c = assertion
