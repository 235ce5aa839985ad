-- A list that a step gives is the whole list.
use Rattle.std.proofs.Common.{◌≡◌, ℕ, List, Option, None, Some, Ok}
use Rattle.sp_formulas.specs.declared.fault.FormulaFault.{FormulaFault}
use Rattle.sp_formulas.specs.declared.fault.FormulaFault.TheVariants as fault
use Rattle.sp_formula_list.specs.Listed.{IsLimited, IsListing}

module _ (owner : Option (List ℕ)) {T : Type 0} where
  never_limited : (x : T) (f : FormulaFault) → IsLimited owner f (Ok x) → ⊥
  never_limited x fault.TooManyFormulas h = absurd cc
  never_limited x (fault.TooManyInstances n) h = absurd cc
  never_limited x (fault.TooManyNodes n) h = absurd cc
  never_limited x (fault.TooManyTerms n) h = absurd cc
  never_limited x fault.Memory h = h

  pub listing_is : (all x : T) (o : Option FormulaFault) → IsListing owner all o (Ok x) → x ≡ all
  listing_is all x None h = cc
  listing_is all x (Some f) h = absurd (never_limited x f h)
