-- What holds of `verify` and `migrate`, whatever the files.
use Rattle.std.specs.Prelude.{◌≡◌, ◌≤◌, ℕ, List, [], ◌∷◌, Some, None, Ok, length}
use Rattle.sp_text.specs.declared.limits.TheConstants.{MOST_CERTIFICATE_BYTES, MOST_CERTIFICATE_DEPTH}
use Rattle.sp_outside.specs.Files.{Files, first_file}
use Rattle.sp_core.specs.Parts.{Parts}
use Rattle.sp_formulas.specs.Formulas.{Formula}
use Rattle.sp_hold.specs.Holding.{claim}
use Rattle.sp_cert.specs.Spelling.{spelling}
use Rattle.sp_cert.specs.Tree.{File, Tree}
use Rattle.sp_cert.specs.Within.{IsFile}
use Rattle.sp_verdicts.specs.Laws.{Certifies}
use Rattle.sp_frame.specs.declared.refusal.Verdict.TheVariants as verdict
use Rattle.sp_frame.specs.Endings.{printed}
use Rattle.sp_formula_list.specs.Listed.{FormulasListed}
use Rattle.sp_system.specs.System.{SystemJudged, SystemRead}
use Rattle.sp_system.specs.declared.interface.Elaborated.{Elaborated}
use Rattle.sp_system.specs.declared.system.System.{System}
use Rattle.sp_check_command.specs.Secure.{IsSecureInterface}
use Rattle.sp_verify_command.specs.Migrate.{MigrateDone}
use Rattle.sp_verify_command.specs.Verify.{VerifyDone}

-- one certificate for each formula, and each checks
abbrev pub AreCertified : Parts → List Formula → List Tree → Type 0
AreCertified p [] [] = Unit {0}
AreCertified p [] (t ∷ ts) = ⊥
AreCertified p (o ∷ os) [] = ⊥
AreCertified p (o ∷ os) (t ∷ ts) = Certifies p (claim o) t × AreCertified p os ts

-- the bytes spell a file of one certificate for each formula, each of which checks
abbrev pub IsCertified : Parts → List Formula → List ℕ → Type 0
IsCertified p os bytes = (f : File) × IsFile MOST_CERTIFICATE_DEPTH f × (spelling f ≡ bytes) × AreCertified p os f.trees

-- the law: where `verify` comes to lines that accept, the interface is secure
abbrev pub VerifiedAreSecure : Type 0
VerifiedAreSecure =
    (files : Files) (interface certs bytes : List ℕ) → VerifyDone interface certs files (Ok (printed bytes verdict.Ok)) → IsSecureInterface interface files

-- the work of `verify` comes to lines that accept
abbrev pub Accepts : List ℕ → List ℕ → Files → Type 0
Accepts interface certs files = (lines : List ℕ) × VerifyDone interface certs files (Ok (printed lines verdict.Ok))

-- The law: where the texts of a system are read and judged and its formulas listed, `verify` accepts each file whose bytes spell one
-- certificate for each formula, each of which checks, if they are no more than a certificate file may have.
abbrev pub CertifiedAreAccepted : Type 0
CertifiedAreAccepted =
    (files : Files) (interface certs bytes : List ℕ) (x : System) (e : Elaborated) (os : List Formula) → SystemRead interface files (Ok x) → SystemJudged interface x (Ok e)
    → FormulasListed None e.spec (Ok os) → first_file certs files ≡ Some bytes → length bytes ≤ MOST_CERTIFICATE_BYTES → IsCertified e.spec os bytes → Accepts interface certs files

-- the texts of the system read alike in other files
abbrev pub ReadAlike : List ℕ → Files → Files → Type 0
ReadAlike interface files others = (x : System) → SystemRead interface files (Ok x) → SystemRead interface others (Ok x)

-- The law: where `migrate` comes to bytes that accept, they spell a file of the second format with one certificate for each formula,
-- each of which checks.
pub record IsMigrated (interface : List ℕ) (files : Files) (bytes : List ℕ) : Type 0 where
  pub system : System
  pub elaborated : Elaborated
  pub listed : List Formula
  pub read : SystemRead interface files (Ok system)
  pub judged : SystemJudged interface system (Ok elaborated)
  pub formulas : FormulasListed None elaborated.spec (Ok listed)
  pub file : File
  pub good : IsFile MOST_CERTIFICATE_DEPTH file
  pub format : file.format ≡ 2
  pub spelled : spelling file ≡ bytes
  pub certified : AreCertified elaborated.spec listed file.trees

abbrev pub MigratedAreCertified : Type 0
MigratedAreCertified =
    (files : Files) (interface certs bytes : List ℕ) → MigrateDone interface certs files (Ok (printed bytes verdict.Ok)) → IsMigrated interface files bytes

-- the law: so `verify` accepts a file of these bytes, if they are no more than a certificate file may have
abbrev pub MigratedAreAccepted : Type 0
MigratedAreAccepted =
    (files others : Files) (interface certs bytes : List ℕ) → MigrateDone interface certs files (Ok (printed bytes verdict.Ok)) → ReadAlike interface files others
    → first_file certs others ≡ Some bytes → length bytes ≤ MOST_CERTIFICATE_BYTES → Accepts interface certs others
