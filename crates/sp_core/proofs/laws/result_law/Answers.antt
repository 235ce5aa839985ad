use Rattle.sp_core.proofs.OneResult.{one_result_of}
use Rattle.sp_core.proofs.laws.result_law.Goals as goal

pub returns : goal.returns
returns c = one_result_of
