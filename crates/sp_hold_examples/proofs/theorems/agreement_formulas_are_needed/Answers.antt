use Rattle.sp_hold_examples.proofs.QuarrelLemmas.{others_hold, quarrel_is_not_secure, quarrel_well_formed}
use Rattle.sp_hold_examples.proofs.theorems.agreement_formulas_are_needed.Goals as goal

pub returns : goal.returns
returns c = λ o lattice h. record {
  well_formed = quarrel_well_formed o lattice h.count_same;
  others_hold = others_hold o lattice;
  insecure = quarrel_is_not_secure o lattice h;
}
