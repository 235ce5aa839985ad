use Rattle.sp_examples.proofs.WorkedLemmas.{leaky_well_formed}
use Rattle.sp_hold_examples.proofs.LeakyLemmas.{leaky_is_not_secure, others_hold}
use Rattle.sp_hold_examples.proofs.theorems.change_formulas_are_needed.Goals as goal

pub returns : goal.returns
returns c = λ o lattice h. record {
  well_formed = leaky_well_formed o lattice h.count_same;
  others_hold = others_hold o;
  insecure = leaky_is_not_secure o lattice h;
}
