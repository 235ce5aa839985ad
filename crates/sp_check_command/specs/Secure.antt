-- What ACCEPTED means, for whoever reads it.
use Rattle.std.specs.Prelude.{ℕ, List, Option, Ok}
use Rattle.std.specs.List.{All}
use Rattle.sp_outside.specs.Files.{Files}
use Rattle.sp_core.specs.Instances.{IsAdmissible, IsInstanceOf, IsSecure, filling_of}
use Rattle.sp_core.specs.Parts.{Parts}
use Rattle.sp_core.specs.WellFormed.{IsWellFormed}
use Rattle.sp_claims.specs.Models.{ClaimHolds}
use Rattle.sp_formulas.specs.Formulas.{formulas}
use Rattle.sp_hold.specs.Holding.{claim}
use Rattle.sp_instance.specs.Instances.{instance_of}
use Rattle.sp_frame.specs.declared.refusal.Verdict.TheVariants as verdict
use Rattle.sp_frame.specs.Endings.{printed}
use Rattle.sp_system.specs.Interfaces.{IsOnlySpec}
use Rattle.sp_system.specs.System.{SystemJudged, SystemRead}
use Rattle.sp_system.specs.declared.interface.Elaborated.{Elaborated}
use Rattle.sp_system.specs.declared.system.System.{System}
use Rattle.sp_deciding.specs.Laws.{IsClosed}
use Rattle.sp_check_command.specs.Check.{CheckAnswered, CheckDone}

-- No flow formula of the specification has an open branch, so each holds under every reading, and the specification is secure.
pub record IsProved (p : Parts) : Type 0 where
  pub closed : All (IsClosed p) (formulas p)
  pub hold : All (λ o. ClaimHolds p (claim o)) (formulas p)
  pub secure : IsSecure p

-- the law: where the work on a well-formed specification comes to lines that accept, all that is so
abbrev pub AnsweredAreProved : Type 0
AnsweredAreProved = (owner : Option (List ℕ)) (p : Parts) (bytes : List ℕ) → IsWellFormed p → CheckAnswered owner p (Ok (printed bytes verdict.Ok)) → IsProved p

-- The files read as an interface with its modules and its sample; they stand for one specification, of which the sample is an
-- admissible instance; and the specification is secure.
pub record IsSecureInterface (interface : List ℕ) (files : Files) : Type 0 where
  pub system : System
  pub spec : Parts
  pub read : SystemRead interface files (Ok system)
  pub meant : IsOnlySpec system.interface system.modules spec
  pub sample : IsInstanceOf spec (instance_of spec system.sample)
  pub admissible : IsAdmissible spec (filling_of (instance_of spec system.sample))
  pub secure : IsSecure spec

-- the law: where a system is read and judged, and no flow formula of its specification has an open branch, its interface is secure
abbrev pub ClosedAreSecure : Type 0
ClosedAreSecure =
    (files : Files) (interface : List ℕ) (x : System) (e : Elaborated) → SystemRead interface files (Ok x) → SystemJudged interface x (Ok e) → All (IsClosed e.spec) (formulas e.spec)
    → IsSecureInterface interface files

-- the law: where the work comes to lines that accept, the interface is secure
abbrev pub AcceptedAreSecure : Type 0
AcceptedAreSecure =
    (files : Files) (interface bytes : List ℕ) → CheckDone interface files (Ok (printed bytes verdict.Ok)) → IsSecureInterface interface files
