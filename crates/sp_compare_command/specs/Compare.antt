-- `compare`: a run of a script beside the run of what a level sees of it, both from the initial state in an instance.
use Rattle.std.specs.Prelude.{◌≡◌, ◌⊎◌, ℕ, Bool, true, false, List, [], ◌++◌, Option, Some, None, Ok, Err, codes, slice_get}
use Rattle.std.specs.Fmt.{decimal}
use Rattle.sp_outside.specs.Files.{Files}
use Rattle.sp_lattice.specs.Order.{bottom_level, top_level}
use Rattle.sp_values.specs.declared.place.Invocation.{Invocation}
use Rattle.sp_values.specs.declared.place.Place.{Place}
use Rattle.sp_values.specs.declared.value.Value.{Value}
use Rattle.sp_core.specs.declared.function.Answer.{Answer}
use Rattle.sp_core.specs.Instances.{InstanceParts, filling_of, machine_of}
use Rattle.sp_core.specs.Machine.{initial_state}
use Rattle.sp_core.specs.Parts.{Parts}
use Rattle.sp_stepping.specs.declared.fault.StepFault.{StepFault}
use Rattle.sp_stepping.specs.declared.fault.StepFault.TheVariants as fault
use Rattle.sp_animator.specs.Comparing.{Compares, IsCompareFault}
use Rattle.sp_animator.specs.declared.comparing.CompareFault.{CompareFault}
use Rattle.sp_animator.specs.declared.comparing.Compared.{Compared}
use Rattle.sp_animator.specs.declared.comparing.Compared.TheVariants as compared
use Rattle.sp_report.specs.Answers.{answer_text}
use Rattle.sp_report.specs.Constants.{nth_name}
use Rattle.sp_frame.specs.declared.refusal.Verdict.TheVariants as verdict
use Rattle.sp_frame.specs.Endings.{printed}
use Rattle.sp_frame.specs.Steps.{Step, Then}
use Rattle.sp_sorts.specs.Levels.{LevelJudged}
use Rattle.sp_frame.specs.Uncertified.{Lines}
use Rattle.sp_run_command.specs.Prepared.{RunPrepared, RunRead}
use Rattle.sp_report.specs.Headings.{interface_line}
use Rattle.sp_run_command.specs.Printed.{conflict_text}
use Rattle.sp_run_command.specs.Run.{full_at}
use Rattle.sp_run_command.specs.declared.texts.Prepared.{Prepared}
use Rattle.sp_run_command.specs.declared.texts.RunTexts.{RunTexts}

-- the word is judged as a level of the specification
abbrev pub SpecLevelJudged : Parts → List ℕ → Step ℕ
SpecLevelJudged p word = LevelJudged p.level_names (bottom_level p.lattice) (top_level p.lattice) word

-- the function of an invocation, if there is one
abbrev pub function_of : Option Invocation → ℕ
function_of None = 0
function_of (Some j) = j.fun

-- `INTERFACE name` and `LEVEL name`
abbrev pub head_text : Parts → ℕ → List ℕ
head_text p l = interface_line p ++ codes "LEVEL " ++ nth_name p.level_names l ++ codes "\n"

-- all kept invocations answer the same
abbrev pub same_text : Parts → ℕ → ℕ → List ℕ
same_text p l kept = head_text p l ++ codes "SAME " ++ decimal kept ++ codes "\n"

-- the invocation of this number answers x in the whole run and y in the purged one
abbrev pub differs_text : Parts → InstanceParts → List Invocation → ℕ → ℕ → Answer → Answer → List ℕ
differs_text p i js l n x y =
    head_text p l ++ codes "DIFFERS " ++ decimal n ++ codes " " ++ answer_text p i (function_of (slice_get js n)) x ++ codes " " ++ answer_text p i (function_of (slice_get js n)) y ++ codes "\n"

-- which run it is
abbrev pub run_word : Bool → List ℕ
run_word true = codes "purged "
run_word false = []

-- a run breaks off at a conflict
abbrev pub conflict_lines : Parts → InstanceParts → ℕ → Bool → ℕ → Place → Value → Value → List ℕ
conflict_lines p i l b n place x y = head_text p l ++ codes "CONFLICT " ++ run_word b ++ conflict_text p i n place x y

module _ (p : Parts) (i : InstanceParts) (js : List Invocation) (l : ℕ) where
  -- what comes of a comparison
  abbrev pub IsCompared : Compared → Step Lines
  IsCompared (compared.Same n) out = out ≡ Ok (printed (same_text p l n) verdict.Ok)
  IsCompared (compared.Differs n x y) out = out ≡ Ok (printed (differs_text p i js l n x y) verdict.Refused)

  -- what comes of a run that breaks off; want of memory is no outcome
  abbrev pub IsBroken : Bool → ℕ → StepFault → Step Lines
  IsBroken b n (fault.Conflict place x y) out = out ≡ Ok (printed (conflict_lines p i l b n place x y) verdict.Conflict)
  IsBroken b n fault.StateFull out = out ≡ Err (full_at n)
  IsBroken b n fault.Memory out = ⊥

  -- both runs end and are compared, or the whole run breaks off, or else the purged one
  abbrev pub ComparePrinted : Step Lines
  ComparePrinted out =
      ((c : Compared) × Compares (machine_of p (filling_of i)) initial_state l js c × IsCompared c out)
      ⊎ ((f : CompareFault) × IsCompareFault (machine_of p (filling_of i)) initial_state l js f × IsBroken f.purged f.at f.fault out)

abbrev pub CompareAnswered : Prepared → ℕ → Step Lines
CompareAnswered x l = ComparePrinted x.elaborated.spec x.instance x.script l

-- the texts are judged, then the level, and then both runs are compared
abbrev pub CompareWork : List ℕ → List ℕ → List ℕ → List ℕ → RunTexts → Step Lines
CompareWork interface instance script level t =
    Then (RunPrepared interface instance script t) (λ x.
    Then (SpecLevelJudged x.elaborated.spec level) (λ l.
    CompareAnswered x l))

-- the texts are read, and then the work is done
unfoldable pub CompareDone : List ℕ → List ℕ → List ℕ → List ℕ → Files → Step Lines
CompareDone interface instance script level files = Then (RunRead interface instance script files) (CompareWork interface instance script level)
