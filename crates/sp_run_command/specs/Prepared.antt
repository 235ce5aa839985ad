-- What is read and judged before a script is run: a system, another instance of its specification, and the script. For `run` and
-- for `compare`.
use Rattle.std.specs.Prelude.{◌≡◌, ℕ, ◌≤◌, List, Result, length}
use Rattle.std.specs.List.{All}
use Rattle.sp_text.specs.declared.fault.TextFault.{TextFault}
use Rattle.sp_text.specs.declared.limits.TheConstants.{MOST_INVOCATIONS}
use Rattle.sp_text.specs.Violations.{Judges}
use Rattle.sp_outside.specs.Files.{Files}
use Rattle.sp_tree.specs.declared.instance.ScriptTree.{ScriptTree}
use Rattle.sp_values.specs.declared.place.Invocation.{Invocation}
use Rattle.sp_core.specs.Instances.{InstanceParts, IsInstanceOf, filling_of, machine_of}
use Rattle.sp_core.specs.Machine.{IsInvocation}
use Rattle.sp_core.specs.Parts.{Parts}
use Rattle.sp_instance.specs.Scripts.{invocations_of, script_broken}
use Rattle.sp_frame.specs.Steps.{Gives, Judged, Step, Then}
use Rattle.sp_sorts.specs.Sorts.{instances, scripts}
use Rattle.sp_sorts.specs.Texts.{Answered, TreeRead}
use Rattle.sp_system.specs.Instances.{InstanceJudged}
use Rattle.sp_system.specs.System.{SystemJudged, SystemRead}
use Rattle.sp_run_command.specs.declared.texts.Prepared.{Prepared}
use Rattle.sp_run_command.specs.declared.texts.RunTexts.{RunTexts}

-- the texts are read: those of the system, the instance, the script
abbrev pub RunRead : List ℕ → List ℕ → List ℕ → Files → Step RunTexts
RunRead interface instance script files =
    Then (SystemRead interface files) (λ x.
    Then (TreeRead instances instance files) (λ n.
    Then (TreeRead scripts script files) (λ s.
    Gives (record { system = x; instance = n; script = s }))))

-- the script breaks nothing and stands for these invocations, or the fault is the first of what it breaks
abbrev pub ScriptMade : Parts → InstanceParts → ScriptTree → Result (List Invocation) TextFault → Type 0
ScriptMade p i t = Answered (Judges (script_broken p i.members t) (λ (js : List Invocation). js ≡ invocations_of p i.members t))

-- the system is judged, then the instance in this file, then the script in this file
abbrev pub RunPrepared : List ℕ → List ℕ → List ℕ → RunTexts → Step Prepared
RunPrepared interface instance script t =
    Then (SystemJudged interface t.system) (λ e.
    Then (InstanceJudged e.spec instance t.instance) (λ i.
    Then (Judged script (ScriptMade e.spec i t.script)) (λ js.
    Gives (record { elaborated = e; instance = i; script = js }))))

-- the instance is one of the specification, and the invocations are those of its machine, at most 10,000
pub record IsPrepared (x : Prepared) : Type 0 where
  pub instance : IsInstanceOf x.elaborated.spec x.instance
  pub invocations : All (IsInvocation (machine_of x.elaborated.spec (filling_of x.instance))) x.script
  pub few : length x.script ≤ MOST_INVOCATIONS
