-- What is true of an accepted specification, for whoever prints that it is accepted.
use Rattle.std.specs.List.{All}
use Rattle.sp_core.specs.Instances.{IsSecure}
use Rattle.sp_core.specs.Parts.{Parts}
use Rattle.sp_claims.specs.Models.{ClaimHolds}
use Rattle.sp_formulas.specs.Formulas.{formulas}
use Rattle.sp_hold.specs.Holding.{claim}

-- it is secure, and each of its flow formulas holds
pub record IsAccepted (p : Parts) : Type 0 where
  pub secure : IsSecure p
  pub formulas_hold : All (λ o. ClaimHolds p (claim o)) (formulas p)
