-- What a run in memory answers: the run of the machine, where no state that it goes through has too many entries, or where
-- it breaks off and why. For the run and for those that print it.
use Rattle.std.specs.Prelude.{◌≡◌, ℕ, ◌⊎◌, List, Some, slice_get, take}
use Rattle.sp_values.specs.declared.place.Invocation.{Invocation}
use Rattle.sp_core.specs.declared.function.Answer.{Answer}
use Rattle.sp_core.specs.Machine.{Machine, RunBy}
use Rattle.sp_core.specs.Values.{Store}
use Rattle.sp_stepping.specs.Stepping.{IsStepFault, StepsWithin}
use Rattle.sp_stepping.specs.declared.fault.StepFault.{StepFault}
use Rattle.sp_stepping.specs.declared.fault.StepFault.TheVariants as fault
use Rattle.sp_animator.specs.declared.running.RunFault.{RunFault}

-- the run of a list, where no state that it goes through has too many entries
abbrev pub RunsWithin : Machine → Store → List Invocation → List Answer → Store → Type 0
RunsWithin m = RunBy (StepsWithin m)

-- invocation i has this number, and the fault in state t
pub record IsRefused (m : Machine) (t : Store) (list : List Invocation) (at : ℕ) (e : StepFault) (i : Invocation) : Type 0 where
  pub there : slice_get list at ≡ Some i
  pub fault : IsStepFault m t i e

-- the invocation of this number has the fault, or the fault is want of memory
abbrev pub IsNextRefused : Machine → Store → List Invocation → ℕ → StepFault → Type 0
IsNextRefused m t list at e = (e ≡ fault.Memory) ⊎ ((i : Invocation) × IsRefused m t list at e i)

-- the run breaks off: its answers and its state t are those of the invocations before number `at`, and that one is refused
pub record BreaksOff (m : Machine) (s : Store) (list : List Invocation) (r : RunFault) (t : Store) : Type 0 where
  pub run : RunsWithin m s (take r.at list) r.answers t
  pub next : IsNextRefused m t list r.at r.fault
