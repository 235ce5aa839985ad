-- What a call that loads files answers and does to the library, for the contract of each such call.
use Rattle.std.specs.Prelude.{◌≡◌, ℕ, ◌≤◌, Option, IfSome, Result, Err}
use Rattle.sp_outside.specs.Causes.{Rose}
use Rattle.sp_outside.specs.Files.{Files}
use Rattle.sp_frame.specs.declared.refusal.LoadStop.{LoadStop}
use Rattle.sp_frame.specs.declared.refusal.LoadStop.TheVariants as load_stop
use Rattle.sp_frame.specs.Steps.{DoesLoad, Step}

-- The call does the step over the files that the library tells, and stops for a failed read only where the count of faults
-- rose; the files stay, and the count never falls.
pub record Loads {L T : Type 0} (told : L → Option Files) (faults : L → ℕ) (before now : L) (step : Files → Step T) (result : Result T LoadStop) : Type 0 where
  pub does : IfSome (told before) (λ files. DoesLoad (step files) result)
  pub failed : result ≡ Err load_stop.ReadFault → Rose (faults before) (faults now)
  pub same : told now ≡ told before
  pub later : faults before ≤ faults now
