use Rattle.sp_examples.proofs.StackLemmas.{one_refused, two_refused}
use Rattle.sp_examples.proofs.theorems.cycles_are_refused.Goals as goal

pub returns : goal.returns
returns c = (one_refused, two_refused)
