-- What is true of the list of flow formulas.
use Rattle.sp_core.specs.Parts.{Parts}
use Rattle.sp_core.specs.WellFormed.{IsWellFormed}
use Rattle.sp_formulas.specs.Formulas.{formulas}
use Rattle.sp_formulas.specs.Typed.{AreTypedFormulas}

-- the law: each formula of the list is typed over its variables
abbrev pub FormulasAreTyped : Type 0
FormulasAreTyped = (p : Parts) → IsWellFormed p → AreTypedFormulas p (formulas p)
