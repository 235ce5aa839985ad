-- `sample`: an interface of a given size, made, checked and summed up.
use Rattle.std.specs.Prelude.{ℕ, None}
use Rattle.sp_core.specs.Parts.{Parts}
use Rattle.sp_frame.specs.Steps.{Gives, Step, Then}
use Rattle.sp_frame.specs.Uncertified.{Lines}
use Rattle.sp_formula_list.specs.Listed.{FormulasListed}
use Rattle.sp_deciding.specs.Decided.{AllDecided}
use Rattle.sp_system.specs.System.{SystemJudged}
use Rattle.sp_system.specs.declared.system.System.{System}
use Rattle.sp_sample_command.specs.Summary.{sample_answer}
use Rattle.sp_sample_command.specs.Texts.{SampleRead, interface_file}

-- the formulas of the specification are listed, then each is decided, and then it is told
abbrev pub SampleAnswered : ℕ → Parts → Step Lines
SampleAnswered n p =
    Then (FormulasListed None p) (λ os.
    Then (AllDecided None p 1 os) (λ ds.
    Gives (sample_answer n p os ds)))

-- the texts are judged as those of `check`, and then the formulas
abbrev pub SampleWork : ℕ → System → Step Lines
SampleWork n x = Then (SystemJudged interface_file x) (λ e. SampleAnswered n e.spec)

-- the texts are read, and then the work is done
unfoldable pub SampleDone : ℕ → Step Lines
SampleDone n = Then (SampleRead n) (SampleWork n)
