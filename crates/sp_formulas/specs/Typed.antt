-- Formulas that are well typed over their variables.
use Rattle.std.specs.Prelude.{◌≤◌, List, All, length}
use Rattle.sp_text.specs.declared.limits.TheConstants.{MOST_QUANTIFIERS}
use Rattle.sp_values.specs.declared.value.Ty.TheVariants as ty
use Rattle.sp_core.specs.Machine.{types_of}
use Rattle.sp_core.specs.Measures.{quantifiers}
use Rattle.sp_core.specs.Parts.{Parts, signature}
use Rattle.sp_core.specs.Typing.{HasType}
use Rattle.sp_formulas.specs.Formulas.{Formula}

-- its variables are few; hypotheses and goal are of type BOOLEAN over them, with few quantifiers in one another
pub record IsTypedFormula (p : Parts) (o : Formula) : Type 0 where
  pub few_variables : length o.vars ≤ 65536
  pub hypotheses : All (λ h. HasType (signature p) (types_of o.vars) h ty.Boolean) o.hypotheses
  pub goal : HasType (signature p) (types_of o.vars) o.goal ty.Boolean
  pub few_quantifiers : All (λ h. quantifiers h ≤ MOST_QUANTIFIERS) o.hypotheses
  pub few_in_goal : quantifiers o.goal ≤ MOST_QUANTIFIERS

abbrev pub AreTypedFormulas : Parts → List Formula → Type 0
AreTypedFormulas p os = All (IsTypedFormula p) os
