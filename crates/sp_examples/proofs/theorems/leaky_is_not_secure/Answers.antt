use Rattle.sp_examples.proofs.SecurityLemmas.{leaky_is_not_secure}
use Rattle.sp_examples.proofs.WorkedLemmas.{leaky_well_formed}
use Rattle.sp_examples.proofs.theorems.leaky_is_not_secure.Goals as goal

pub returns : goal.returns
returns c = (leaky_well_formed, leaky_is_not_secure)
