use Rattle.std.proofs.Common.{refl}
use Rattle.sp_examples.proofs.SecurityLemmas.{nothing_is_secure, silent_well_formed}
use Rattle.sp_examples.specs.Theorems.{silent}
use Rattle.sp_examples.proofs.theorems.silent_is_secure.Goals as goal

pub returns : goal.returns
returns c = (silent_well_formed, λ o. nothing_is_secure (silent o) refl)
