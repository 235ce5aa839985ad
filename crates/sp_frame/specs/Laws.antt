-- What holds of each step of each command, for what follows from a status.
use Rattle.std.specs.Prelude.{◌≡◌, None, Result, Err}
use Rattle.sp_outside.specs.Files.{Files, IsTooLong, first_file}
use Rattle.sp_frame.specs.declared.refusal.Refusal.{Refusal}
use Rattle.sp_frame.specs.declared.refusal.Refusal.TheVariants as refusal
use Rattle.sp_frame.specs.Steps.{Step}

-- what a refusal says of the files
abbrev pub IsDue : Files → Refusal → Type 0
IsDue files (refusal.Missing name) = first_file name files ≡ None
IsDue files (refusal.TooLong name most) = IsTooLong name most files
IsDue files _ = Unit {0}

-- there is one outcome at most
abbrev pub IsOnce : {T E : Type 0} → (Result T E → Type 0) → Type 0
IsOnce {T} {E} step = (a b : Result T E) → step a → step b → a ≡ b

-- the step comes to one outcome at most, and its refusals hold of the files
pub record IsLawful {T : Type 0} (files : Files) (step : Step T) : Type 0 where
  pub once : IsOnce step
  pub due : (r : Refusal) → step (Err r) → IsDue files r
