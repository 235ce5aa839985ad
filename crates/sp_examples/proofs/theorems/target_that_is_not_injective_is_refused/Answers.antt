use Rattle.sp_examples.proofs.LampLemmas.{not_injective_refused}
use Rattle.sp_examples.proofs.theorems.target_that_is_not_injective_is_refused.Goals as goal

pub returns : goal.returns
returns c = not_injective_refused
