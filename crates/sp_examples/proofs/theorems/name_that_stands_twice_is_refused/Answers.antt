use Rattle.sp_examples.proofs.LampLemmas.{one_name_refused}
use Rattle.sp_examples.proofs.theorems.name_that_stands_twice_is_refused.Goals as goal

pub returns : goal.returns
returns c = one_name_refused
