-- `prove`: certificates of the flow formulas of an interface, where all are proved; else the report of `check`.
use Rattle.std.specs.Prelude.{ℕ, zero, suc, List, None}
use Rattle.sp_outside.specs.Files.{Files}
use Rattle.sp_core.specs.Parts.{Parts}
use Rattle.sp_formulas.specs.Formulas.{Formula}
use Rattle.sp_frame.specs.declared.refusal.Verdict.TheVariants as verdict
use Rattle.sp_frame.specs.Endings.{certified, printed}
use Rattle.sp_frame.specs.Steps.{Gives, Step, Then}
use Rattle.sp_system.specs.System.{SystemJudged, SystemRead}
use Rattle.sp_system.specs.declared.system.System.{System}
use Rattle.sp_formula_list.specs.Listed.{FormulasListed}
use Rattle.sp_deciding.specs.Decided.{AllDecided, open_count}
use Rattle.sp_deciding.specs.declared.deciding.Decision.{Decision}
use Rattle.sp_check_command.specs.Check.{check_text}
use Rattle.sp_prove_command.specs.Certificates.{Certificates}

-- the answer where so many of the formulas are open
abbrev pub answer_by : ℕ → Parts → List Formula → List Decision → Certificates
answer_by zero p os ds = certified p
answer_by (suc k) p os ds = printed (check_text p os ds) verdict.Refused

abbrev pub prove_answer : Parts → List Formula → List Decision → Certificates
prove_answer p os ds = answer_by (open_count ds) p os ds

-- the formulas of the specification are listed, then each is decided, and then certificates are given, or it is told
abbrev pub ProveAnswered : Parts → Step Certificates
ProveAnswered p =
    Then (FormulasListed None p) (λ os.
    Then (AllDecided None p 1 os) (λ ds.
    Gives (prove_answer p os ds)))

-- the texts are judged, and then the formulas
abbrev pub ProveWork : List ℕ → System → Step Certificates
ProveWork interface x = Then (SystemJudged interface x) (λ e. ProveAnswered e.spec)

-- the texts are read, and then the work is done
unfoldable pub ProveDone : List ℕ → Files → Step Certificates
ProveDone interface files = Then (SystemRead interface files) (ProveWork interface)
