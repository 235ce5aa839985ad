-- What ACCEPTED means of a sample, and what a sample is never refused for.
use Rattle.std.specs.Prelude.{ℕ, ◌≤◌, List, Ok, Err}
use Rattle.sp_core.specs.Instances.{IsAdmissible, IsInstanceOf, IsSecure, filling_of}
use Rattle.sp_core.specs.Parts.{Parts}
use Rattle.sp_instance.specs.Instances.{instance_of}
use Rattle.sp_frame.specs.declared.refusal.Refusal.TheVariants as refusal
use Rattle.sp_frame.specs.declared.refusal.Verdict.TheVariants as verdict
use Rattle.sp_frame.specs.Endings.{printed}
use Rattle.sp_system.specs.Interfaces.{IsOnlySpec}
use Rattle.sp_system.specs.declared.system.System.{System}
use Rattle.sp_sample_command.specs.Sample.{SampleDone}
use Rattle.sp_sample_command.specs.Texts.{SampleRead}

-- The texts of the sample of this size read as an interface with its module and its instance; they stand for one specification,
-- of which the instance is an admissible one; and the specification is secure.
pub record IsSecureSample (n : ℕ) : Type 0 where
  pub system : System
  pub spec : Parts
  pub read : SampleRead n (Ok system)
  pub meant : IsOnlySpec system.interface system.modules spec
  pub sample : IsInstanceOf spec (instance_of spec system.sample)
  pub admissible : IsAdmissible spec (filling_of (instance_of spec system.sample))
  pub secure : IsSecure spec

-- the law: where the work comes to a summary that accepts, the sample is secure
abbrev pub SampledAreSecure : Type 0
SampledAreSecure = (n : ℕ) (bytes : List ℕ) → SampleDone n (Ok (printed bytes verdict.Ok)) → IsSecureSample n

-- the law: no file is missing or too long, since none is loaded
pub record LoadsNothing (n : ℕ) : Type 0 where
  pub none_missing : (name : List ℕ) → SampleDone n (Err (refusal.Missing name)) → ⊥
  pub none_long : (name : List ℕ) (most : ℕ) → SampleDone n (Err (refusal.TooLong name most)) → ⊥

-- the law: no assertion is false, since there is none
abbrev pub AssertsNothing : Type 0
AssertsNothing = (n : ℕ) → n ≤ 100 → (file : List ℕ) (number : ℕ) → SampleDone n (Err (refusal.NotAdmissible file number)) → ⊥
