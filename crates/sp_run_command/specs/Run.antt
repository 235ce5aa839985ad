-- `run`: the answers of a script of an interface, from its initial state in an instance.
use Rattle.std.specs.Prelude.{◌≡◌, ◌⊎◌, ℕ, List, ◌++◌, None, Ok, Err, codes, length}
use Rattle.std.specs.Fmt.{decimal}
use Rattle.sp_text.specs.declared.fault.Quantity.TheVariants as quantity
use Rattle.sp_outside.specs.Files.{Files}
use Rattle.sp_values.specs.declared.place.Invocation.{Invocation}
use Rattle.sp_values.specs.declared.place.Place.{Place}
use Rattle.sp_values.specs.declared.value.Value.{Value}
use Rattle.sp_core.specs.declared.function.Answer.{Answer}
use Rattle.sp_core.specs.Instances.{InstanceParts, filling_of, machine_of}
use Rattle.sp_core.specs.Machine.{initial_state}
use Rattle.sp_core.specs.Parts.{Parts}
use Rattle.sp_core.specs.Values.{Store}
use Rattle.sp_stepping.specs.declared.fault.StepFault.{StepFault}
use Rattle.sp_stepping.specs.declared.fault.StepFault.TheVariants as fault
use Rattle.sp_animator.specs.Runs.{BreaksOff, RunsWithin}
use Rattle.sp_animator.specs.declared.running.RunFault.{RunFault}
use Rattle.sp_frame.specs.declared.refusal.Refusal.{Refusal}
use Rattle.sp_frame.specs.declared.refusal.Refusal.TheVariants as refusal
use Rattle.sp_frame.specs.declared.refusal.Verdict.TheVariants as verdict
use Rattle.sp_frame.specs.declared.refusal.WorkPlace.TheVariants as work_place
use Rattle.sp_frame.specs.Endings.{printed}
use Rattle.sp_frame.specs.Steps.{Step, Then}
use Rattle.sp_frame.specs.Uncertified.{Lines}
use Rattle.sp_report.specs.Headings.{interface_line}
use Rattle.sp_run_command.specs.Prepared.{RunPrepared, RunRead}
use Rattle.sp_run_command.specs.Printed.{answer_lines, conflict_text}
use Rattle.sp_run_command.specs.declared.texts.Prepared.{Prepared}
use Rattle.sp_run_command.specs.declared.texts.RunTexts.{RunTexts}

-- the state would have too many entries after the invocation of this number
abbrev pub full_at : ℕ → Refusal
full_at n = refusal.Work (record { quantity = quantity.ChangedPlaces; owner = None; place = work_place.Invocation n; found = None })

module _ (p : Parts) (i : InstanceParts) (js : List Invocation) where
  -- the lines of a run that ends
  abbrev pub run_text : List Answer → List ℕ
  run_text as' = interface_line p ++ answer_lines p i 0 js as' ++ codes "END " ++ decimal (length js) ++ codes "\n"

  -- the lines of a run that breaks off at a conflict: the answers before it, and then the conflict
  abbrev pub broken_text : ℕ → List Answer → Place → Value → Value → List ℕ
  broken_text n as' place x y = interface_line p ++ answer_lines p i 0 js as' ++ codes "CONFLICT " ++ conflict_text p i n place x y

  -- A run that breaks off, as the outcome: a conflict is told in lines; a state that is full is a refusal; want of memory is no outcome.
  abbrev pub IsBroken : ℕ → List Answer → StepFault → Step Lines
  IsBroken n as' (fault.Conflict place x y) out = out ≡ Ok (printed (broken_text n as' place x y) verdict.Conflict)
  IsBroken n as' fault.StateFull out = out ≡ Err (full_at n)
  IsBroken n as' fault.Memory out = ⊥

  -- the invocations run from the initial state, and their answers are printed; or the run breaks off
  abbrev pub RunPrinted : Step Lines
  RunPrinted out =
      ((as' : List Answer) × (t : Store) × RunsWithin (machine_of p (filling_of i)) initial_state js as' t × (out ≡ Ok (printed (run_text as') verdict.Ok)))
      ⊎ ((r : RunFault) × (t : Store) × BreaksOff (machine_of p (filling_of i)) initial_state js r t × IsBroken r.at r.answers r.fault out)

abbrev pub RunAnswered : Prepared → Step Lines
RunAnswered x = RunPrinted x.elaborated.spec x.instance x.script

-- the texts are judged, and then the script runs
abbrev pub RunWork : List ℕ → List ℕ → List ℕ → RunTexts → Step Lines
RunWork interface instance script t = Then (RunPrepared interface instance script t) RunAnswered

-- the texts are read, and then the work is done
unfoldable pub RunDone : List ℕ → List ℕ → List ℕ → Files → Step Lines
RunDone interface instance script files = Then (RunRead interface instance script files) (RunWork interface instance script)
