use Rattle.sp_examples.proofs.CountingLemmas.{counting_refused, counting_well_formed}
use Rattle.sp_examples.proofs.theorems.seventeen_derivations_are_refused.Goals as goal

pub returns : goal.returns
returns c = (counting_well_formed, counting_refused)
