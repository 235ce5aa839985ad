-- `check`: whether each flow formula of an interface is proved.
use Rattle.std.specs.Prelude.{ℕ, List, ◌++◌, Option, None, length}
use Rattle.sp_outside.specs.Files.{Files}
use Rattle.sp_core.specs.Parts.{Parts}
use Rattle.sp_formulas.specs.Formulas.{Formula}
use Rattle.sp_report.specs.Headings.{interface_line}
use Rattle.sp_frame.specs.Endings.{printed}
use Rattle.sp_frame.specs.Steps.{Gives, Step, Then}
use Rattle.sp_frame.specs.Uncertified.{Lines}
use Rattle.sp_formula_list.specs.Listed.{FormulasListed}
use Rattle.sp_deciding.specs.Decided.{AllDecided, open_count}
use Rattle.sp_deciding.specs.Verdicts.{all_lines, last_line, verdict_by}
use Rattle.sp_deciding.specs.declared.deciding.Decision.{Decision}
use Rattle.sp_system.specs.System.{SystemJudged, SystemRead}
use Rattle.sp_system.specs.declared.system.System.{System}

-- the name of the interface, what was decided of each formula, and what follows of all
abbrev pub check_text : Parts → List Formula → List Decision → List ℕ
check_text p os ds = interface_line p ++ all_lines p 1 os ds ++ last_line (length os) (open_count ds)

-- the answer of `check`: the lines, and whether all formulas are proved
abbrev pub check_answer : Parts → List Formula → List Decision → Lines
check_answer p os ds = printed (check_text p os ds) (verdict_by (open_count ds))

-- The formulas of the specification are listed, then each is decided, and then it is told. Where the work is on several
-- interfaces, a refusal has the name of its owner.
abbrev pub CheckAnswered : Option (List ℕ) → Parts → Step Lines
CheckAnswered owner p =
    Then (FormulasListed owner p) (λ os.
    Then (AllDecided owner p 1 os) (λ ds.
    Gives (check_answer p os ds)))

-- the texts are judged, and then the formulas
abbrev pub CheckWork : List ℕ → System → Step Lines
CheckWork interface x = Then (SystemJudged interface x) (λ e. CheckAnswered None e.spec)

-- the texts are read, and then the work is done
unfoldable pub CheckDone : List ℕ → Files → Step Lines
CheckDone interface files = Then (SystemRead interface files) (CheckWork interface)
