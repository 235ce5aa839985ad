use Rattle.sp_examples.proofs.StackLemmas.{five_six}
use Rattle.sp_examples.proofs.theorems.last_pushed_is_first_popped.Goals as goal

pub returns : goal.returns
returns c = five_six
