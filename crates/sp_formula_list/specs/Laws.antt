-- What holds of listing formulas, for the laws of commands.
use Rattle.std.specs.Prelude.{ℕ, List, Option}
use Rattle.sp_outside.specs.Files.{Files}
use Rattle.sp_core.specs.Parts.{Parts}
use Rattle.sp_formulas.specs.declared.fault.FormulaFault.{FormulaFault}
use Rattle.sp_formulas.specs.Formulas.{Formula}
use Rattle.sp_frame.specs.Laws.{IsLawful}
use Rattle.sp_formula_list.specs.Listed.{FormulasListed, IsListing}

-- it comes to one outcome at most, and its refusals say nothing of files
abbrev pub ListedLaw : Type 0
ListedLaw = (files : Files) (owner : Option (List ℕ)) (p : Parts) → IsLawful files (FormulasListed owner p)

-- the same of any list
abbrev pub ListingLaw : Type 0
ListingLaw = (files : Files) (owner : Option (List ℕ)) (os : List Formula) (o : Option FormulaFault) → IsLawful files (IsListing owner os o)
