use Rattle.sp_examples.proofs.StackLemmas.{stacks_well_formed}
use Rattle.sp_examples.proofs.theorems.stacks_are_well_formed.Goals as goal

pub returns : goal.returns
returns c = λ o lattice two. stacks_well_formed o two lattice
