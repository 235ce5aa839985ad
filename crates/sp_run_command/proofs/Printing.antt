-- What is printed of a run that ends, and of one that breaks off, as what comes of the run.
use Rattle.std.proofs.Common.{◌≡◌, ◌≢◌, ◌∙◌, ℕ, ◌<◌, ◌≤◌, List, [], Result, Ok, Err, arith, inl, inr, length, refl, sym, subst}
use Rattle.std.specs.Prelude.{Some, slice_get}
use Rattle.std.proofs.lemmas.Option.{slice_get_within}
use Rattle.sp_values.specs.declared.place.Invocation.{Invocation}
use Rattle.sp_core.specs.declared.function.Answer.{Answer}
use Rattle.sp_core.specs.declared.state.Entry.{Entry}
use Rattle.sp_core.specs.Instances.{InstanceParts, filling_of, machine_of}
use Rattle.sp_core.specs.Machine.{initial_state}
use Rattle.sp_core.specs.Parts.{Parts}
use Rattle.sp_core.specs.States.{entry_of}
use Rattle.sp_core.specs.Values.{Store}
use Rattle.sp_stepping.specs.declared.fault.StepFault.TheVariants as fault
use Rattle.sp_animator.specs.Runs.{BreaksOff, RunsWithin}
use Rattle.sp_animator.specs.declared.running.RunFault.{RunFault}
use Rattle.sp_frame.specs.declared.refusal.Printed.{Printed}
use Rattle.sp_frame.specs.declared.refusal.Stop.{Stop}
use Rattle.sp_frame.specs.declared.refusal.Stop.TheVariants as stop
use Rattle.sp_frame.specs.declared.refusal.Verdict.TheVariants as verdict
use Rattle.sp_frame.specs.Endings.{Printing, printed}
use Rattle.sp_frame.specs.Steps.{Does}
use Rattle.sp_frame.specs.Uncertified.{spells}
use Rattle.sp_run_command.specs.Run.{IsBroken, RunPrinted, run_text}

module _ (p : Parts) (i : InstanceParts) (js : List Invocation) where
  -- the run from a state without entries ends
  pub ended : (es : List Entry) (as' : List Answer) (t : Store) (q : Printed) → es ≡ [] → RunsWithin (machine_of p (filling_of i)) (entry_of es) js as' t
      → q.bytes.items ≡ run_text p i js as' → q.verdict ≡ verdict.Ok → Does (Printing spells (RunPrinted p i js)) (Ok q)
  ended es as' t q none run bytes v =
      (printed (run_text p i js as') verdict.Ok, inl (as', t, subst (λ xs. RunsWithin (machine_of p (filling_of i)) (entry_of xs) js as' t) none run, refl), bytes, v)

  -- it breaks off
  pub breaks : (es : List Entry) (f : RunFault) (t : Store) (r : Result Printed Stop) → es ≡ [] → BreaksOff (machine_of p (filling_of i)) (entry_of es) js f t
      → Does (Printing spells (IsBroken p i js f.at f.answers f.fault)) r → Does (Printing spells (RunPrinted p i js)) r
  breaks es f t (Ok q) none b h = (h.0, inr (f, t, subst (λ xs. BreaksOff (machine_of p (filling_of i)) (entry_of xs) js f t) none b, h.1), h.2, h.3)
  breaks es f t (Err (stop.Refused s)) none b h = inr (f, t, subst (λ xs. BreaksOff (machine_of p (filling_of i)) (entry_of xs) js f t) none b, h)
  breaks es f t (Err stop.Memory) none b h = tt

  -- the number of an invocation after which the state would be full
  pub full_number : (es : List Entry) (f : RunFault) (t : Store) → BreaksOff (machine_of p (filling_of i)) (entry_of es) js f t → length js ≤ 10000 → f.fault ≡ fault.StateFull → f.at < 10000
  full_number es f t b few is = elim b.next [
    | inl e ↦ let d : fault.StateFull ≡ fault.Memory = sym is ∙ e in absurd cc
    | inr (j, refused) ↦ let below = slice_get_within js f.at j refused.there in omega (arith, below, few)
  ]
