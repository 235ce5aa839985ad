-- What `prove` has to do with `check`, and what certificates mean, for whoever reads them.
use Rattle.std.specs.Prelude.{◌≡◌, ℕ, List, None, Result, Ok, Err}
use Rattle.sp_outside.specs.Files.{Files}
use Rattle.sp_core.specs.Parts.{Parts}
use Rattle.sp_frame.specs.declared.refusal.Refusal.{Refusal}
use Rattle.sp_frame.specs.declared.refusal.Verdict.TheVariants as verdict
use Rattle.sp_frame.specs.Endings.{certified, printed}
use Rattle.sp_frame.specs.Uncertified.{Lines}
use Rattle.sp_formulas.specs.Formulas.{formulas}
use Rattle.sp_formula_list.specs.Listed.{FormulasListed}
use Rattle.sp_system.specs.System.{SystemJudged, SystemRead}
use Rattle.sp_system.specs.declared.interface.Elaborated.{Elaborated}
use Rattle.sp_system.specs.declared.system.System.{System}
use Rattle.sp_check_command.specs.Check.{CheckDone}
use Rattle.sp_check_command.specs.Secure.{IsSecureInterface}
use Rattle.sp_prove_command.specs.Certificates.{Certificates}
use Rattle.sp_prove_command.specs.Prove.{ProveDone}

-- the outcome of `check` beside one of `prove`: certificates stand in the place of lines that accept; all else is the same
abbrev pub IsBeside : Result Certificates Refusal → Result Lines Refusal → Type 0
IsBeside (Ok (certified p)) out = (bytes : List ℕ) × (out ≡ Ok (printed bytes verdict.Ok))
IsBeside (Ok (printed bytes v)) out = (v ≡ verdict.Refused) × (out ≡ Ok (printed bytes v))
IsBeside (Err r) out = out ≡ Err r

-- the law: where the work of `prove` comes to an outcome, that of `check` comes to the one beside it
abbrev pub ProvedAreChecked : Type 0
ProvedAreChecked =
    (files : Files) (interface : List ℕ) (a : Result Certificates Refusal) → ProveDone interface files a → (b : Result Lines Refusal) × CheckDone interface files b × IsBeside a b

-- the law: where the work comes to certificates, the interface is secure
abbrev pub ProvedAreSecure : Type 0
ProvedAreSecure =
    (files : Files) (interface : List ℕ) (p : Parts) → ProveDone interface files (Ok (certified p)) → IsSecureInterface interface files

-- The texts of this name read as a system, which stands for the specification, and its flow formulas are within the limits.
pub record IsSpecified (interface : List ℕ) (files : Files) (p : Parts) : Type 0 where
  pub system : System
  pub elaborated : Elaborated
  pub read : SystemRead interface files (Ok system)
  pub judged : SystemJudged interface system (Ok elaborated)
  pub same : p ≡ elaborated.spec
  pub listed : FormulasListed None p (Ok (formulas p))

-- the law: what is certified is the specification of the texts
abbrev pub CertifiedAreSpecified : Type 0
CertifiedAreSpecified = (files : Files) (interface : List ℕ) (p : Parts) → ProveDone interface files (Ok (certified p)) → IsSpecified interface files p
