use Rattle.sp_examples.proofs.LampLemmas.{lamps_well_formed}
use Rattle.sp_examples.proofs.theorems.effects_with_conditions_and_quantifiers.Goals as goal

pub returns : goal.returns
returns c = λ o lattice two. lamps_well_formed o two lattice
