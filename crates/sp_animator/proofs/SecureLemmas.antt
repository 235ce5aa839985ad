-- Where the specification is secure, a run and its purged run answer the same, and no invocation meets a conflict.
use Rattle.std.proofs.Common.{◌≡◌, refl, sym, ◌∙◌, ap, subst, ℕ, ◌<◌, inl, inr, List, [], ◌∷◌, take}
use Rattle.std.specs.Prelude.{Ok, Err, slice_get}
use Rattle.std.specs.List.{All}
use Rattle.std.proofs.lemmas.List.Elements.{All-cons, All-nil}
use Rattle.std.proofs.lemmas.Option.{same_Some}
use Rattle.sp_values.specs.declared.place.Invocation.{Invocation}
use Rattle.sp_core.specs.declared.function.Answer.{Answer}
use Rattle.sp_core.specs.Instances.{Filling, IsInstance, machine_of}
use Rattle.sp_core.specs.Machine.{IsInvocation, IsState, Machine, Run, Step}
use Rattle.sp_core.specs.Parts.{Parts}
use Rattle.sp_core.specs.Security.{IsSecureMachine, purge, seen}
use Rattle.sp_core.specs.Values.{Store}
use Rattle.sp_core.specs.WellFormed.{IsWellFormed}
use Rattle.sp_core.proofs.Steps.{no_step}
use Rattle.sp_stepping.specs.Laws.{ConflictFaultLaw}
use Rattle.sp_stepping.specs.Stepping.{IsStepFault}
use Rattle.sp_stepping.specs.declared.fault.StepFault.{StepFault}
use Rattle.sp_stepping.specs.declared.fault.StepFault.TheVariants as fault
use Rattle.sp_animator.specs.Comparing.{BreaksPurged, BreaksWhole, Compares, IsCompareFault, IsNoConflict, IsSameOrFull, kept_before}
use Rattle.sp_animator.specs.Runs.{RunsWithin}
use Rattle.sp_animator.specs.declared.comparing.CompareFault.{CompareFault}
use Rattle.sp_animator.specs.declared.comparing.Compared.{Compared}
use Rattle.sp_animator.specs.declared.comparing.Compared.TheVariants as compared
use Rattle.sp_animator.proofs.RunLemmas.{call_at, calls_kept, calls_taken, kept_answer, run_of, run_typed}

fault_alone : (m : Machine) (s : Store) (i : Invocation) (a : Answer) (t : Store) → ConflictFaultLaw → Step m s i a t → (e : StepFault) → IsStepFault m s i e → IsNoConflict e
fault_alone m s i a t law step (fault.Conflict p x y) h = no_step m s i a t step (law m s i p x y h)
fault_alone m s i a t law step fault.StateFull h = tt
fault_alone m s i a t law step fault.Memory h = tt

first_step : (m : Machine) (s : Store) (i : Invocation) (as' : List Answer) (t : Store) → Run m s (i ∷ []) as' t → (a : Answer) × (u : Store) × Step m s i a u
first_step m s i [] t h = absurd h
first_step m s i (a ∷ as') t h = (a, h.0, h.1)

module _ (p : Parts) (i : Filling) (wf : IsWellFormed p) (inst : IsInstance p i) (law : ConflictFaultLaw) (secure : IsSecureMachine (machine_of p i)) where
  no_conflict : (s : Store) (j : Invocation) → IsState (machine_of p i) s → IsInvocation (machine_of p i) j → (e : StepFault) → IsStepFault (machine_of p i) s j e → IsNoConflict e
  no_conflict s j state call e h =
      let m = machine_of p i in
      let run = secure.one_run.run s (j ∷ []) state (All-cons (IsInvocation m) j [] call (All-nil (IsInvocation m))) in
      let step = first_step m s j run.0 run.1 run.2 in
      fault_alone m s j step.0 step.1 law step.2 e h

  module _ (s : Store) (l : ℕ) (list : List Invocation) (state : IsState (machine_of p i) s) (calls : All (IsInvocation (machine_of p i)) list) (level : l < p.lattice.count) where
    same_seen : (as' bs : List Answer) (t u : Store) → RunsWithin (machine_of p i) s list as' t → RunsWithin (machine_of p i) s (purge (machine_of p i) l list) bs u → bs ≡ seen (machine_of p i) l list as'
    same_seen as' bs t u whole purged =
        let m = machine_of p i in
        (secure.hides_above.hides l s s list level state state (record { same = λ g v low. refl }) calls as' bs t u (run_of m list s as' t whole) (run_of m (purge m l list) s bs u purged)).0

    pub ok_quiet : (c : Compared) → Compares (machine_of p i) s l list c → IsSameOrFull (Ok c)
    ok_quiet (compared.Same n) h = tt
    ok_quiet (compared.Differs n x y) (as', bs, h) =
        let m = machine_of p i in
        let d = h.comparison in
        let same = same_seen as' bs h.whole.0 h.purged.0 h.whole.1 h.purged.1 in
        let here = kept_answer m l list as' n d.0 x d.1.there d.1.kept d.1.whole in
        d.1.differ (same_Some x y (sym here ∙ ap (λ xs. slice_get xs (kept_before m l list n)) (sym same) ∙ d.1.purged))

    memory_quiet : (e : StepFault) → e ≡ fault.Memory → IsNoConflict e
    memory_quiet e h = subst IsNoConflict (sym h) tt

    whole_quiet : (n : ℕ) (e : StepFault) → BreaksWhole (machine_of p i) s list n e → IsNoConflict e
    whole_quiet n e (as', t, j, h) =
        let m = machine_of p i in
        let typed = run_typed p i wf inst (take n list) s as' t state (calls_taken (IsInvocation m) list n calls) h.run in
        no_conflict t j typed (call_at (IsInvocation m) list n j calls h.refused.there) e h.refused.fault

    purged_quiet : (n : ℕ) (e : StepFault) → BreaksPurged (machine_of p i) s l list n e → IsNoConflict e
    purged_quiet n e (as', t, j, h) =
        let m = machine_of p i in
        let typed = run_typed p i wf inst (purge m l (take n list)) s as' t state (calls_kept m l (IsInvocation m) (take n list) (calls_taken (IsInvocation m) list n calls)) h.run in
        no_conflict t j typed (call_at (IsInvocation m) list n j calls h.refused.there) e h.refused.fault

    pub err_quiet : (f : CompareFault) → IsCompareFault (machine_of p i) s l list f → IsSameOrFull (Err f)
    err_quiet f (inl w) = elim w.why [ inl e ↦ memory_quiet f.fault e | inr b ↦ whole_quiet f.at f.fault b ]
    err_quiet f (inr (w, k)) = elim k.why [ inl e ↦ memory_quiet f.fault e | inr b ↦ purged_quiet f.at f.fault b ]
