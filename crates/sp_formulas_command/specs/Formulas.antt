-- `formulas`: the flow formulas of an interface.
use Rattle.std.specs.Prelude.{ℕ, List, None}
use Rattle.sp_outside.specs.Files.{Files}
use Rattle.sp_core.specs.Parts.{Parts}
use Rattle.sp_formulas.specs.Formulas.{Formula}
use Rattle.sp_frame.specs.declared.refusal.Verdict.TheVariants as verdict
use Rattle.sp_frame.specs.Endings.{printed}
use Rattle.sp_frame.specs.Steps.{Gives, Step, Then}
use Rattle.sp_frame.specs.Uncertified.{Lines}
use Rattle.sp_formula_list.specs.Listed.{FormulasListed}
use Rattle.sp_system.specs.System.{SystemJudged, SystemRead}
use Rattle.sp_system.specs.declared.system.System.{System}
use Rattle.sp_formulas_command.specs.Printed.{list_text}

-- the printed list
abbrev pub list_printed : Parts → List Formula → Lines
list_printed p fs = printed (list_text p fs) verdict.Ok

-- the list of a specification is made and printed
abbrev pub ListPrinted : Parts → Step Lines
ListPrinted p = Then (FormulasListed None p) (λ fs. Gives (list_printed p fs))

-- the system is judged, and then its formulas are listed
abbrev pub FormulasWork : List ℕ → System → Step Lines
FormulasWork interface x = Then (SystemJudged interface x) (λ e. ListPrinted e.spec)

-- the texts are read, and then the work is done
unfoldable pub FormulasDone : List ℕ → Files → Step Lines
FormulasDone interface files = Then (SystemRead interface files) (FormulasWork interface)
