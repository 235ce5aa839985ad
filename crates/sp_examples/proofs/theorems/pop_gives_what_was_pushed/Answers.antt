use Rattle.sp_examples.proofs.StackLemmas.{push_then_pop}
use Rattle.sp_examples.proofs.theorems.pop_gives_what_was_pushed.Goals as goal

pub returns : goal.returns
returns c = push_then_pop
