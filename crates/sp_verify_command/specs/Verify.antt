-- `verify`: whether each flow formula of an interface has a certificate that checks.
use Rattle.std.specs.Prelude.{ℕ, List, None}
use Rattle.sp_outside.specs.Files.{Files}
use Rattle.sp_core.specs.Parts.{Parts}
use Rattle.sp_formulas.specs.Formulas.{Formula}
use Rattle.sp_cert.specs.Tree.{Tree}
use Rattle.sp_frame.specs.Endings.{printed}
use Rattle.sp_frame.specs.Files.{FileRead}
use Rattle.sp_frame.specs.Steps.{Gives, Step, Then}
use Rattle.sp_frame.specs.Uncertified.{Lines}
use Rattle.sp_formula_list.specs.Listed.{FormulasListed}
use Rattle.sp_sorts.specs.Certificates.{certificates}
use Rattle.sp_system.specs.System.{SystemJudged, SystemRead}
use Rattle.sp_verify_command.specs.declared.reading.Texts.{Texts}
use Rattle.sp_verify_command.specs.Judged.{file_verdict, verify_text}

-- the texts of the system are read, and then the certificates
abbrev pub TextsRead : List ℕ → List ℕ → Files → Step Texts
TextsRead interface certs files =
    Then (SystemRead interface files) (λ x.
    Then (FileRead certificates certs files) (λ f.
    Gives (record { system = x; certificates = f })))

-- the answer of `verify`: the lines, and whether each formula has a certificate that checks, and no certificate is too many
abbrev pub verify_answer : Parts → List Formula → List Tree → Lines
verify_answer p os ts = printed (verify_text p os ts) (file_verdict p os ts)

-- the formulas of the specification are listed, and their certificates are judged, and then it is told
abbrev pub VerifyAnswered : Parts → List Tree → Step Lines
VerifyAnswered p ts = Then (FormulasListed None p) (λ os. Gives (verify_answer p os ts))

-- the texts are judged, and then the certificates
abbrev pub VerifyWork : List ℕ → Texts → Step Lines
VerifyWork interface x = Then (SystemJudged interface x.system) (λ e. VerifyAnswered e.spec x.certificates.trees)

-- the texts are read, and then the work is done
unfoldable pub VerifyDone : List ℕ → List ℕ → Files → Step Lines
VerifyDone interface certs files = Then (TextsRead interface certs files) (VerifyWork interface)
