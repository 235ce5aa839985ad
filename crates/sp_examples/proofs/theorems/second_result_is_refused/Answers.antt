use Rattle.sp_examples.proofs.LampLemmas.{two_results_refused}
use Rattle.sp_examples.proofs.theorems.second_result_is_refused.Goals as goal

pub returns : goal.returns
returns c = two_results_refused
