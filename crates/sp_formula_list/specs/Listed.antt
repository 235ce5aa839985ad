-- The list of the flow formulas of a specification, as the step of a command with which all work on formulas begins.
use Rattle.std.specs.Prelude.{◌≡◌, ℕ, List, Option, Some, None, Result, Ok, Err, map}
use Rattle.sp_text.specs.declared.fault.Quantity.{Quantity}
use Rattle.sp_text.specs.declared.fault.Quantity.TheVariants as quantity
use Rattle.sp_core.specs.Parts.{Parts}
use Rattle.sp_sequent.specs.declared.formula.Formula.{Formula as Made}
use Rattle.sp_formulas.specs.Formulas.{Formula, formula_as, formulas}
use Rattle.sp_formulas.specs.Limits.{first_fault}
use Rattle.sp_formulas.specs.declared.fault.FormulaFault.{FormulaFault}
use Rattle.sp_formulas.specs.declared.fault.FormulaFault.TheVariants as fault
use Rattle.sp_frame.specs.declared.refusal.Refusal.{Refusal}
use Rattle.sp_frame.specs.declared.refusal.Refusal.TheVariants as refusal
use Rattle.sp_frame.specs.declared.refusal.Stop.{Stop}
use Rattle.sp_frame.specs.declared.refusal.WorkPlace.{WorkPlace}
use Rattle.sp_frame.specs.declared.refusal.WorkPlace.TheVariants as work_place
use Rattle.sp_frame.specs.Steps.{Step}

-- The work exceeds a limit. Where it is on several interfaces or mappings, the owner is the one whose formulas they are.
abbrev pub exceeded : Option (List ℕ) → Quantity → WorkPlace → Option ℕ → Refusal
exceeded owner q place found = refusal.Work (record { quantity = q; owner = owner; place = place; found = found })

-- The limit that a list exceeds, as the outcome: that of their number stands at the interface or mapping, each other one at its
-- formula. Want of memory is no outcome.
abbrev pub IsLimited : {T : Type 0} → Option (List ℕ) → FormulaFault → Step T
IsLimited owner fault.TooManyFormulas out = out ≡ Err (exceeded owner quantity.Formulas work_place.Interface None)
IsLimited owner (fault.TooManyInstances n) out = out ≡ Err (exceeded owner quantity.AssertionInstances (work_place.Formula n) None)
IsLimited owner (fault.TooManyNodes n) out = out ≡ Err (exceeded owner quantity.FormulaNodes (work_place.Formula n) None)
IsLimited owner (fault.TooManyTerms n) out = out ≡ Err (exceeded owner quantity.Terms (work_place.Formula n) None)
IsLimited owner fault.Memory out = ⊥

-- the list, or the first limit that is exceeded along it, where there is one
abbrev pub IsListing : {T : Type 0} → Option (List ℕ) → T → Option FormulaFault → Step T
IsListing owner os None out = out ≡ Ok os
IsListing owner os (Some f) out = IsLimited owner f out

-- the flow formulas of the specification
abbrev pub FormulasListed : Option (List ℕ) → Parts → Step (List Formula)
FormulasListed owner p = IsListing owner (formulas p) (first_fault p 1 (formulas p))

-- what is listed, over plain trees
abbrev pub as_formulas : Result (List Made) Stop → Result (List Formula) Stop
as_formulas (Ok fs) = Ok (map formula_as fs)
as_formulas (Err s) = Err s
