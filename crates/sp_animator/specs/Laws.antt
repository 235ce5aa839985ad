-- Laws of the definitions, stated for the layers above. Each is proved at a function of the same name.
use Rattle.std.specs.Prelude.{◌≡◌, ℕ, List}
use Rattle.sp_values.specs.declared.place.Invocation.{Invocation}
use Rattle.sp_core.specs.declared.function.Answer.{Answer}
use Rattle.sp_core.specs.Machine.{Machine, Run}
use Rattle.sp_core.specs.Values.{Store}
use Rattle.sp_stepping.specs.declared.fault.StepFault.TheVariants as fault
use Rattle.sp_animator.specs.Comparing.{Compares, IsCompareFault}
use Rattle.sp_animator.specs.Runs.{BreaksOff, RunsWithin}
use Rattle.sp_animator.specs.declared.comparing.CompareFault.{CompareFault}
use Rattle.sp_animator.specs.declared.comparing.Compared.{Compared}
use Rattle.sp_animator.specs.declared.running.RunFault.{RunFault}

-- a run in memory is a run of the machine
abbrev pub MemoryRunLaw : Type 0
MemoryRunLaw = (m : Machine) (list : List Invocation) (s : Store) (as' : List Answer) (t : Store) → RunsWithin m s list as' t → Run m s list as' t

-- a list that has a run in memory breaks off for want of memory alone
abbrev pub RunFaultLaw : Type 0
RunFaultLaw = (m : Machine) (list : List Invocation) (s : Store) (as' : List Answer) (t u : Store) (r : RunFault) → RunsWithin m s list as' t → BreaksOff m s list r u → r.fault ≡ fault.Memory

-- where both runs end, the comparison is refused for want of memory alone
abbrev pub CompareFaultLaw : Type 0
CompareFaultLaw = (m : Machine) (s : Store) (l : ℕ) (list : List Invocation) (c : Compared) (f : CompareFault) → Compares m s l list c → IsCompareFault m s l list f → f.fault ≡ fault.Memory
