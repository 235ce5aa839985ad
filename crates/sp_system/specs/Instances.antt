-- An instance of a specification is made of its text, and has to be admissible. For the work of each command.
use Rattle.std.specs.Prelude.{◌≡◌, ◌⊎◌, ℕ, List, Result, Ok, Err}
use Rattle.sp_text.specs.declared.fault.TextFault.{TextFault}
use Rattle.sp_text.specs.Violations.{Judges}
use Rattle.sp_tree.specs.declared.instance.InstanceTree.{InstanceTree}
use Rattle.sp_core.specs.Instances.{InstanceParts, IsAdmissible, filling_of}
use Rattle.sp_core.specs.Parts.{Parts}
use Rattle.sp_instance.specs.Instances.{instance_broken, instance_of}
use Rattle.sp_eval.specs.Admissible.{IsFirstFalse}
use Rattle.sp_frame.specs.declared.refusal.Refusal.TheVariants as refusal
use Rattle.sp_frame.specs.Steps.{Gives, Judged, Step, Then}
use Rattle.sp_sorts.specs.Texts.{Answered}

-- the text breaks nothing and stands for this instance, or the fault is the first of what it breaks
abbrev pub InstanceMade : Parts → InstanceTree → Result InstanceParts TextFault → Type 0
InstanceMade p t = Answered (Judges (instance_broken p t) (λ i. i ≡ instance_of p t))

-- each assertion is TRUE in the instance of this file, or this is the first that isn't
abbrev pub Admitted : Parts → List ℕ → InstanceParts → Step (Unit {0})
Admitted p file i out =
    (IsAdmissible p (filling_of i) × (out ≡ Ok tt)) ⊎ ((n : ℕ) × IsFirstFalse p (filling_of i) n × (out ≡ Err (refusal.NotAdmissible file n)))

-- the instance of this file is made, and then has to be admissible
abbrev pub InstanceJudged : Parts → List ℕ → InstanceTree → Step InstanceParts
InstanceJudged p file t =
    Then (Judged file (InstanceMade p t)) (λ i.
    Then (Admitted p file i) (λ _.
    Gives i))
