-- Laws of the definitions, stated for the layers above. Each is proved at a function of the same name.
use Rattle.std.specs.Prelude.{◌≡◌, ◌⊎◌}
use Rattle.sp_values.specs.declared.place.Invocation.{Invocation}
use Rattle.sp_values.specs.declared.place.Place.{Place}
use Rattle.sp_values.specs.declared.value.Value.{Value}
use Rattle.sp_core.specs.declared.function.Answer.{Answer}
use Rattle.sp_core.specs.Machine.{Machine, MeetsConflict}
use Rattle.sp_core.specs.Values.{Store}
use Rattle.sp_stepping.specs.Stepping.{IsStepFault, StepsWithin}
use Rattle.sp_stepping.specs.declared.fault.StepFault.{StepFault}
use Rattle.sp_stepping.specs.declared.fault.StepFault.TheVariants as fault

-- an invocation that has a step in memory has no fault but want of memory
abbrev pub FaultLaw : Type 0
FaultLaw = (m : Machine) (s : Store) (i : Invocation) (a : Answer) (t : Store) (e : StepFault) → StepsWithin m s i a t → IsStepFault m s i e → e ≡ fault.Memory

-- and it has one fault at most besides
abbrev pub OneFaultLaw : Type 0
OneFaultLaw = (m : Machine) (s : Store) (i : Invocation) (d e : StepFault) → IsStepFault m s i d → IsStepFault m s i e → (d ≡ e) ⊎ (d ≡ fault.Memory) ⊎ (e ≡ fault.Memory)

-- an invocation that is refused for a conflict meets one, so it has no step
abbrev pub ConflictFaultLaw : Type 0
ConflictFaultLaw = (m : Machine) (s : Store) (i : Invocation) (p : Place) (x y : Value) → IsStepFault m s i (fault.Conflict p x y) → MeetsConflict m s i
