-- The work of `run` comes to one outcome at most, and its refusals hold of the files.
use Rattle.std.proofs.Common.{◌≡◌, ◌≢◌, ◌∙◌, ℕ, List, Result, Ok, Err, ap, inl, inr, refl, sym, subst}
use Rattle.sp_outside.specs.Files.{Files}
use Rattle.sp_values.specs.declared.place.Invocation.{Invocation}
use Rattle.sp_core.specs.declared.function.Answer.{Answer}
use Rattle.sp_core.specs.Instances.{InstanceParts, filling_of, machine_of}
use Rattle.sp_core.specs.Machine.{Machine, initial_state}
use Rattle.sp_core.specs.Parts.{Parts}
use Rattle.sp_core.specs.Values.{Store}
use Rattle.sp_stepping.specs.Laws.{FaultLaw, OneFaultLaw}
use Rattle.sp_stepping.specs.declared.fault.StepFault.{StepFault}
use Rattle.sp_stepping.specs.declared.fault.StepFault.TheVariants as fault
use Rattle.sp_animator.specs.Runs.{BreaksOff, IsNextRefused, IsRefused}
use Rattle.sp_animator.specs.declared.running.RunFault.{RunFault}
use Rattle.sp_frame.specs.declared.refusal.Refusal.{Refusal}
use Rattle.sp_frame.specs.declared.refusal.Verdict.TheVariants as verdict
use Rattle.sp_frame.specs.Endings.{printed}
use Rattle.sp_frame.specs.Laws.{IsDue, IsLawful}
use Rattle.sp_frame.proofs.Lawful.{gives_lawful, judged_lawful, then_lawful}
use Rattle.sp_sorts.specs.Sorts.{instances, scripts}
use Rattle.sp_sorts.proofs.Exact.{instance_once, script_once}
use Rattle.sp_system.proofs.Lawful.{instance_lawful, judged_once, judged_system_lawful, read_lawful as system_lawful, tree_lawful}
use Rattle.sp_frame.specs.Uncertified.{Lines}
use Rattle.sp_run_command.specs.Prepared.{RunPrepared, RunRead}
use Rattle.sp_run_command.specs.Run.{IsBroken, RunDone, RunPrinted, full_at, run_text}
use Rattle.sp_run_command.specs.declared.texts.RunTexts.{RunTexts}
use Rattle.sp_run_command.proofs.Runs.{IsBreak, broken, breaks_one, runs_one}

module _ (files : Files) where
  pub read_lawful : (interface instance script : List ℕ) → IsLawful files (RunRead interface instance script files)
  read_lawful interface instance script =
      then_lawful files _ _ (system_lawful files interface) (λ x.
      then_lawful files _ _ (tree_lawful files instances instance instance_once) (λ n.
      then_lawful files _ _ (tree_lawful files scripts script script_once) (λ s. gives_lawful files (record { system = x; instance = n; script = s }))))

  pub prepared_lawful : (interface instance script : List ℕ) (t : RunTexts) → IsLawful files (RunPrepared interface instance script t)
  prepared_lawful interface instance script t =
      then_lawful files _ _ (judged_system_lawful files interface t.system) (λ e.
      then_lawful files _ _ (instance_lawful files e.spec instance t.instance) (λ i.
      then_lawful files _ _ (judged_lawful files script _ (judged_once _ _ (λ x y h k. h ∙ sym k))) (λ js. gives_lawful files (record { elaborated = e; instance = i; script = js }))))

module _ (p : Parts) (i : InstanceParts) (js : List Invocation) where
  definite : (n : ℕ) (as' : List Answer) (e : StepFault) (out : Result Lines Refusal) → IsBroken p i js n as' e out → e ≢ fault.Memory
  definite n as' (fault.Conflict place x y) out h d = absurd cc
  definite n as' fault.StateFull out h d = absurd cc
  definite n as' fault.Memory out h d = h

  broken_once : (n : ℕ) (as' : List Answer) (e : StepFault) (a b : Result Lines Refusal) → IsBroken p i js n as' e a → IsBroken p i js n as' e b → a ≡ b
  broken_once n as' (fault.Conflict place x y) a b h k = h ∙ sym k
  broken_once n as' fault.StateFull a b h k = h ∙ sym k
  broken_once n as' fault.Memory a b h k = absurd h

  broken_due : (files : Files) (n : ℕ) (as' : List Answer) (e : StepFault) (r : Refusal) → IsBroken p i js n as' e (Err r) → IsDue files r
  broken_due files n as' (fault.Conflict place x y) r h = absurd cc
  broken_due files n as' fault.StateFull r h = let same : r ≡ full_at n = cc in subst (IsDue files) (sym same) tt
  broken_due files n as' fault.Memory r h = absurd h

  module _ (law : FaultLaw) (one_law : OneFaultLaw) where
    breaks_same : (r q : RunFault) (t u : Store) (a b : Result Lines Refusal) → BreaksOff (machine_of p (filling_of i)) initial_state js r t → BreaksOff (machine_of p (filling_of i)) initial_state js q u
        → IsBroken p i js r.at r.answers r.fault a → IsBroken p i js q.at q.answers q.fault b → a ≡ b
    breaks_same r q t u a b h k x y = by h.next k.next
      where
        m : Machine
        m = machine_of p (filling_of i)

        at_both : (c d : Invocation) → IsRefused m t js r.at r.fault c → IsRefused m u js q.at q.fault d → a ≡ b
        at_both c d v w =
            let one = breaks_one m law one_law js initial_state r.at q.at r.answers q.answers t u c d r.fault q.fault
            (record { run = h.run; there = v.there; refused = v.fault; definite = definite r.at r.answers r.fault a x })
            (record { run = k.run; there = w.there; refused = w.fault; definite = definite q.at q.answers q.fault b y }) in
            let z = subst (λ e. IsBroken p i js q.at q.answers e a) one.fault (subst (λ xs. IsBroken p i js q.at xs r.fault a) one.answers (subst (λ n. IsBroken p i js n r.answers r.fault a) one.number x)) in
            broken_once q.at q.answers q.fault a b z y

        by : IsNextRefused m t js r.at r.fault → IsNextRefused m u js q.at q.fault → a ≡ b
        by (inl e) w = absurd (definite r.at r.answers r.fault a x e)
        by (inr v) (inl e) = absurd (definite q.at q.answers q.fault b y e)
        by (inr v) (inr w) = at_both v.0 w.0 v.1 w.1

    printed_once : (a b : Result Lines Refusal) → RunPrinted p i js a → RunPrinted p i js b → a ≡ b
    printed_once a b (inl h) (inl k) =
        let one = runs_one (machine_of p (filling_of i)) js initial_state h.0 k.0 h.1 k.1 h.2 k.2 in
        h.3 ∙ ap (λ xs. Ok (printed (run_text p i js xs) verdict.Ok)) one.0 ∙ sym k.3
    printed_once a b (inl h) (inr k) = absurd (definite k.0.at k.0.answers k.0.fault b k.3 (broken (machine_of p (filling_of i)) law js initial_state h.0 h.1 k.1 k.0 h.2 k.2))
    printed_once a b (inr h) (inl k) = absurd (definite h.0.at h.0.answers h.0.fault a h.3 (broken (machine_of p (filling_of i)) law js initial_state k.0 k.1 h.1 h.0 k.2 h.2))
    printed_once a b (inr h) (inr k) = breaks_same h.0 k.0 h.1 k.1 a b h.2 k.2 h.3 k.3

    printed_due : (files : Files) (r : Refusal) → RunPrinted p i js (Err r) → IsDue files r
    printed_due files r (inl h) = absurd cc
    printed_due files r (inr h) = broken_due files h.0.at h.0.answers h.0.fault r h.3

module _ (files : Files) (law : FaultLaw) (one_law : OneFaultLaw) where
  pub run_lawful : (interface instance script : List ℕ) → IsLawful files (RunDone interface instance script files)
  unfolding RunDone
  run_lawful interface instance script =
      then_lawful files _ _ (read_lawful files interface instance script) (λ t.
      then_lawful files _ _ (prepared_lawful files interface instance script t) (λ x.
      record { once = printed_once x.elaborated.spec x.instance x.script law one_law; due = printed_due x.elaborated.spec x.instance x.script law one_law files }))
