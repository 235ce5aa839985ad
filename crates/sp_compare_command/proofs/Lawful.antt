-- The work of `compare` comes to one outcome at most, and its refusals hold of the files.
use Rattle.std.proofs.Common.{◌≡◌, ◌≢◌, ◌∙◌, ℕ, Bool, List, Result, Ok, Err, inl, inr, sym, subst}
use Rattle.sp_outside.specs.Files.{Files}
use Rattle.sp_values.specs.declared.place.Invocation.{Invocation}
use Rattle.sp_core.specs.Instances.{InstanceParts, filling_of, machine_of}
use Rattle.sp_core.specs.Machine.{initial_state}
use Rattle.sp_core.specs.Parts.{Parts}
use Rattle.sp_stepping.specs.Laws.{FaultLaw, OneFaultLaw}
use Rattle.sp_stepping.specs.declared.fault.StepFault.{StepFault}
use Rattle.sp_stepping.specs.declared.fault.StepFault.TheVariants as fault
use Rattle.sp_animator.specs.declared.comparing.Compared.{Compared}
use Rattle.sp_animator.specs.declared.comparing.Compared.TheVariants as compared
use Rattle.sp_frame.specs.declared.refusal.Refusal.{Refusal}
use Rattle.sp_frame.specs.Laws.{IsDue, IsLawful}
use Rattle.sp_frame.proofs.Lawful.{demand_lawful, judged_lawful, then_lawful, then_once}
use Rattle.sp_sorts.proofs.Exact.{lexed_once}
use Rattle.sp_frame.specs.Uncertified.{Lines}
use Rattle.sp_run_command.specs.Run.{full_at}
use Rattle.sp_run_command.proofs.Lawful.{prepared_lawful, read_lawful}
use Rattle.sp_compare_command.specs.Compare.{CompareDone, ComparePrinted, IsBroken, IsCompared, SpecLevelJudged}
use Rattle.sp_compare_command.proofs.Comparisons.{compared_fault, compares_one, faults_one}

module _ (p : Parts) (i : InstanceParts) (js : List Invocation) (l : ℕ) where
  definite : (b : Bool) (n : ℕ) (e : StepFault) (out : Result Lines Refusal) → IsBroken p i js l b n e out → e ≢ fault.Memory
  definite b n (fault.Conflict place x y) out h d = absurd cc
  definite b n fault.StateFull out h d = absurd cc
  definite b n fault.Memory out h d = h

  broken_once : (b : Bool) (n : ℕ) (e : StepFault) (x y : Result Lines Refusal) → IsBroken p i js l b n e x → IsBroken p i js l b n e y → x ≡ y
  broken_once b n (fault.Conflict place u v) x y h k = h ∙ sym k
  broken_once b n fault.StateFull x y h k = h ∙ sym k
  broken_once b n fault.Memory x y h k = absurd h

  broken_due : (files : Files) (b : Bool) (n : ℕ) (e : StepFault) (r : Refusal) → IsBroken p i js l b n e (Err r) → IsDue files r
  broken_due files b n (fault.Conflict place x y) r h = absurd cc
  broken_due files b n fault.StateFull r h = let same : r ≡ full_at n = cc in subst (IsDue files) (sym same) tt
  broken_due files b n fault.Memory r h = absurd h

  compared_once : (c : Compared) (x y : Result Lines Refusal) → IsCompared p i js l c x → IsCompared p i js l c y → x ≡ y
  compared_once (compared.Same n) x y h k = h ∙ sym k
  compared_once (compared.Differs n u v) x y h k = h ∙ sym k

  compared_due : (files : Files) (c : Compared) (r : Refusal) → IsCompared p i js l c (Err r) → IsDue files r
  compared_due files (compared.Same n) r h = absurd cc
  compared_due files (compared.Differs n u v) r h = absurd cc

  module _ (law : FaultLaw) (one_law : OneFaultLaw) where
    printed_once : (x y : Result Lines Refusal) → ComparePrinted p i js l x → ComparePrinted p i js l y → x ≡ y
    printed_once x y (inl h) (inl k) =
        let one = compares_one (machine_of p (filling_of i)) l initial_state js h.0 k.0 h.1 k.1 in
        compared_once k.0 x y (subst (λ c. IsCompared p i js l c x) one h.2) k.2
    printed_once x y (inl h) (inr k) =
        absurd (definite k.0.purged k.0.at k.0.fault y k.2 (compared_fault (machine_of p (filling_of i)) l initial_state js law one_law h.0 k.0 h.1 k.1))
    printed_once x y (inr h) (inl k) =
        absurd (definite h.0.purged h.0.at h.0.fault x h.2 (compared_fault (machine_of p (filling_of i)) l initial_state js law one_law k.0 h.0 k.1 h.1))
    printed_once x y (inr h) (inr k) =
        let one = faults_one (machine_of p (filling_of i)) l initial_state js law one_law h.0 k.0 (definite h.0.purged h.0.at h.0.fault x h.2) (definite k.0.purged k.0.at k.0.fault y k.2) h.1 k.1 in
        let z = subst (λ e. IsBroken p i js l k.0.purged k.0.at e x) one.fault (subst (λ n. IsBroken p i js l k.0.purged n h.0.fault x) one.at (subst (λ b. IsBroken p i js l b h.0.at h.0.fault x) one.purged h.2)) in
        broken_once k.0.purged k.0.at k.0.fault x y z k.2

    printed_due : (files : Files) (r : Refusal) → ComparePrinted p i js l (Err r) → IsDue files r
    printed_due files r (inl h) = compared_due files h.0 r h.2
    printed_due files r (inr h) = broken_due files h.0.purged h.0.at h.0.fault r h.2

module _ (files : Files) where
  level_lawful : (p : Parts) (word : List ℕ) → IsLawful files (SpecLevelJudged p word)
  level_lawful p word =
      then_lawful files _ _ (demand_lawful files _ _ tt) (λ _.
      judged_lawful files _ _ (then_once _ _ (lexed_once word) (λ tokens a b h k. h ∙ sym k)))

  module _ (law : FaultLaw) (one_law : OneFaultLaw) where
    pub compare_lawful : (interface instance script level : List ℕ) → IsLawful files (CompareDone interface instance script level files)
    unfolding CompareDone
    compare_lawful interface instance script level =
        then_lawful files _ _ (read_lawful files interface instance script) (λ t.
        then_lawful files _ _ (prepared_lawful files interface instance script t) (λ x.
        then_lawful files _ _ (level_lawful x.elaborated.spec level) (λ l.
        record { once = printed_once x.elaborated.spec x.instance x.script l law one_law; due = printed_due x.elaborated.spec x.instance x.script l law one_law files })))
