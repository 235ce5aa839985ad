-- That formulas of two kinds are needed: where all others hold, a well-formed specification may be insecure.
use Rattle.std.specs.Prelude.{◌≡◌}
use Rattle.std.specs.List.{All}
use Rattle.sp_lattice.specs.Order.{IsLatticeOrder, Order}
use Rattle.sp_core.specs.Instances.{IsSecure}
use Rattle.sp_core.specs.Parts.{Parts}
use Rattle.sp_core.specs.WellFormed.{IsWellFormed}
use Rattle.sp_sequent.specs.declared.formula.FormulaKind.{FormulaKind}
use Rattle.sp_sequent.specs.declared.formula.FormulaKind.TheVariants as is
use Rattle.sp_claims.specs.Models.{ClaimHolds}
use Rattle.sp_formulas.specs.Formulas.{formulas}
use Rattle.sp_hold.specs.Holding.{claim}
use Rattle.sp_examples.specs.Common.{IsLowHigh}
use Rattle.sp_examples.specs.WorkedFiles.{leaky}
use Rattle.sp_hold_examples.specs.Quarrel.{quarrel}

-- each flow formula that isn't of this kind holds
abbrev pub OthersHold : FormulaKind → Parts → Type 0
OthersHold k p = All (λ o. (o.kind ≡ k → ⊥) → ClaimHolds p (claim o)) (formulas p)

-- well-formed, all formulas but those of this kind hold, and not secure
pub record IsInsecureBy (k : FormulaKind) (p : Parts) : Type 0 where
  pub well_formed : IsWellFormed p
  pub others_hold : OthersHold k p
  pub insecure : IsSecure p → ⊥

-- files without the exceptions of `write`
abbrev pub ChangeFormulasAreNeeded : Type 0
ChangeFormulasAreNeeded = (o : Order) → IsLatticeOrder o → IsLowHigh o → IsInsecureBy is.Change (leaky o)

-- a register that gets two values at once
abbrev pub AgreementFormulasAreNeeded : Type 0
AgreementFormulasAreNeeded = (o : Order) → IsLatticeOrder o → IsLowHigh o → IsInsecureBy is.Agreement (quarrel o)
