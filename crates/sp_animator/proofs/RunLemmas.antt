-- Runs in memory: they are runs of the machine, lead from states to states, and go on step by step.
use Rattle.std.proofs.Common.{◌≡◌, refl, sym, ◌∙◌, ap, subst, arith, inl, inr, ℕ, zero, suc, ◌+◌, ◌<◌, Bool, true, false, List, [], ◌∷◌, ◌++◌, length, take, get_or, Some}
use Rattle.std.specs.Prelude.{if◌then◌else◌, slice_get}
use Rattle.std.specs.List.{All}
use Rattle.std.proofs.lemmas.List.Elements.{All-cons, All-nil, All-head, All-tail}
use Rattle.std.proofs.lemmas.Option.{none-some, same_Some}
use Rattle.sp_values.specs.declared.place.Invocation.{Invocation}
use Rattle.sp_core.specs.declared.function.Answer.{Answer}
use Rattle.sp_core.specs.Instances.{Filling, IsInstance, machine_of}
use Rattle.sp_core.specs.Machine.{IsInvocation, IsState, Machine, Run, Step}
use Rattle.sp_core.specs.Parts.{Parts}
use Rattle.sp_core.specs.Security.{is_seen, purge, seen}
use Rattle.sp_core.specs.Values.{Store}
use Rattle.sp_core.specs.WellFormed.{IsWellFormed}
use Rattle.sp_core.proofs.StatesTyped.{step_typed}
use Rattle.sp_core.proofs.Steps.{step_one}
use Rattle.sp_stepping.specs.Laws.{FaultLaw}
use Rattle.sp_stepping.specs.Stepping.{IsStepFault, StepsWithin}
use Rattle.sp_stepping.specs.declared.fault.StepFault.{StepFault}
use Rattle.sp_stepping.specs.declared.fault.StepFault.TheVariants as fault
use Rattle.sp_animator.specs.Comparing.{IsAnsweredIf, IsKeptFault, IsKeptRefused, IsWholeFault}
use Rattle.sp_animator.specs.Runs.{BreaksOff, RunsWithin}
use Rattle.sp_animator.specs.declared.running.RunFault.{RunFault}

-- the invocation of a number is one of those
pub call_at : (P : Invocation → Type 0) (is' : List Invocation) (n : ℕ) (i : Invocation) → All P is' → slice_get is' n ≡ Some i → P i
call_at P [] n i all h = absurd (none-some i h)
call_at P (j ∷ is') zero i all h = subst P (same_Some j i h) (All-head P j is' all)
call_at P (j ∷ is') (suc n) i all h = call_at P is' n i (All-tail P j is' all) h

pub calls_taken : (P : Invocation → Type 0) (is' : List Invocation) (n : ℕ) → All P is' → All P (take n is')
calls_taken P [] zero all = All-nil P
calls_taken P [] (suc n) all = All-nil P
calls_taken P (j ∷ is') zero all = All-nil P
calls_taken P (j ∷ is') (suc n) all = All-cons P j (take n is') (All-head P j is' all) (calls_taken P is' n (All-tail P j is' all))

pub calls_kept : (m : Machine) (l : ℕ) (P : Invocation → Type 0) (is' : List Invocation) → All P is' → All P (purge m l is')
calls_kept m l P [] all = All-nil P
calls_kept m l P (j ∷ is') all = by (is_seen m l j) (calls_kept m l P is' (All-tail P j is' all))
  where
    by : (b : Bool) → All P (purge m l is') → All P (if b then j ∷ purge m l is' else purge m l is')
    by true rest = All-cons P j (purge m l is') (All-head P j is' all) rest
    by false rest = rest

module _ (m : Machine) where
  pub step_of : (s : Store) (i : Invocation) (a : Answer) (t : Store) → StepsWithin m s i a t → Step m s i a t
  step_of s i a t (f, h) = (f, h.step)

  -- a run in memory is a run of the machine
  pub run_of : (is' : List Invocation) (s : Store) (as' : List Answer) (t : Store) → RunsWithin m s is' as' t → Run m s is' as' t
  run_of [] s [] t h = h
  run_of [] s (a ∷ as') t h = absurd h
  run_of (i ∷ is') s [] t h = absurd h
  run_of (i ∷ is') s (a ∷ as') t h = (h.0, step_of s i a h.0 h.1, run_of is' h.0 as' t h.2)

  -- as many answers as invocations
  pub run_length : (is' : List Invocation) (s : Store) (as' : List Answer) (t : Store) → RunsWithin m s is' as' t → length as' ≡ length is'
  run_length [] s [] t h = refl
  run_length [] s (a ∷ as') t h = absurd h
  run_length (i ∷ is') s [] t h = absurd h
  run_length (i ∷ is') s (a ∷ as') t h = ap suc (run_length is' h.0 as' t h.2)

  -- one more step
  pub run_one_more : (is' : List Invocation) (s u t : Store) (as' : List Answer) (i : Invocation) (a : Answer) → RunsWithin m s is' as' u → StepsWithin m u i a t → RunsWithin m s (is' ++ i ∷ []) (as' ++ a ∷ []) t
  run_one_more [] s u t [] i a h step = (t, subst (λ v. StepsWithin m v i a t) h step, refl)
  run_one_more [] s u t (b ∷ as') i a h step = absurd h
  run_one_more (j ∷ is') s u t [] i a h step = absurd h
  run_one_more (j ∷ is') s u t (b ∷ as') i a h step = (h.0, h.1, run_one_more is' h.0 u t as' i a h.2 step)

  pub taken_next : (is' : List Invocation) (k : ℕ) (i : Invocation) → k < length is' → i ≡ get_or is' k i → take (k + 1) is' ≡ take k is' ++ i ∷ []
  taken_next is' k i l e = ap (λ n. take n is') (let more : k + 1 ≡ suc k = omega arith in more) ∙ by is' k l e
    where
      by : (is' : List Invocation) (k : ℕ) → k < length is' → i ≡ get_or is' k i → take (suc k) is' ≡ take k is' ++ i ∷ []
      by [] k l e = absurd (omega (arith, l))
      by (j ∷ is') zero l e = ap (λ x. x ∷ []) (sym e)
      by (j ∷ is') (suc k) l e = ap (λ xs. j ∷ xs) (by is' k (omega (arith, l)) e)

  -- what is seen of a kept invocation
  pub kept_answer : (l : ℕ) (is' : List Invocation) (as' : List Answer) (n : ℕ) (i : Invocation) (x : Answer) → slice_get is' n ≡ Some i → is_seen m l i ≡ true → slice_get as' n ≡ Some x
      → slice_get (seen m l is' as') (length (purge m l (take n is'))) ≡ Some x
  kept_answer l [] as' n i x there kept has = absurd (none-some i there)
  kept_answer l (j ∷ is') [] n i x there kept has = absurd (none-some x has)
  kept_answer l (j ∷ is') (a ∷ as') zero i x there kept has =
      (λ k. slice_get (if (ap (is_seen m l) (same_Some j i there) ∙ kept) k then a ∷ seen m l is' as' else seen m l is' as') 0) ∙ has
  kept_answer l (j ∷ is') (a ∷ as') (suc n) i x there kept has = by (is_seen m l j) (kept_answer l is' as' n i x there kept has)
    where
      by : (b : Bool) → slice_get (seen m l is' as') (length (purge m l (take n is'))) ≡ Some x
          → slice_get (if b then a ∷ seen m l is' as' else seen m l is' as') (length (if b then j ∷ purge m l (take n is') else purge m l (take n is'))) ≡ Some x
      by true h = h
      by false h = h

-- runs lead from states to states
pub run_typed : (p : Parts) (i : Filling) → IsWellFormed p → IsInstance p i → (is' : List Invocation) (s : Store) (as' : List Answer) (t : Store) → IsState (machine_of p i) s → All (IsInvocation (machine_of p i)) is' → RunsWithin (machine_of p i) s is' as' t → IsState (machine_of p i) t
run_typed p i wf inst [] s [] t state calls h = subst (IsState (machine_of p i)) (sym h) state
run_typed p i wf inst [] s (a ∷ as') t state calls h = absurd h
run_typed p i wf inst (j ∷ is') s [] t state calls h = absurd h
run_typed p i wf inst (j ∷ is') s (a ∷ as') t state calls h =
    let m = machine_of p i in
    let next = step_typed p i wf inst s state j a h.0 (All-head (IsInvocation m) j is' calls) (step_of m s j a h.0 h.1) in
    run_typed p i wf inst is' h.0 as' t next (All-tail (IsInvocation m) j is' calls) h.2

-- Purged lists

module _ (m : Machine) (l : ℕ) where
  purged_append : (is' js : List Invocation) → purge m l (is' ++ js) ≡ purge m l is' ++ purge m l js
  purged_append [] js = refl
  purged_append (i ∷ is') js = by (is_seen m l i) (purged_append is' js)
    where
      by : (b : Bool) → purge m l (is' ++ js) ≡ purge m l is' ++ purge m l js → (if b then i ∷ purge m l (is' ++ js) else purge m l (is' ++ js)) ≡ (if b then i ∷ purge m l is' else purge m l is') ++ purge m l js
      by true h = ap (λ xs. i ∷ xs) h
      by false h = h

  -- a purged list with one more invocation
  pub purged_next : (is' : List Invocation) (k : ℕ) (i : Invocation) → k < length is' → i ≡ get_or is' k i → purge m l (take (k + 1) is') ≡ purge m l (take k is') ++ (if is_seen m l i then i ∷ [] else [])
  purged_next is' k i n e = ap (purge m l) (taken_next m is' k i n e) ∙ purged_append (take k is') (i ∷ [])

-- a list that has a run breaks off for want of memory alone
module _ (m : Machine) (law : FaultLaw) where
  pub refused_within : (list : List Invocation) (s : Store) (as' : List Answer) (t : Store) (n : ℕ) (bs : List Answer) (u : Store) (i : Invocation) (e : StepFault) → RunsWithin m s list as' t → RunsWithin m s (take n list) bs u
      → slice_get list n ≡ Some i → IsStepFault m u i e → e ≡ fault.Memory
  refused_within [] s as' t n bs u i e h k there refused = absurd (none-some i there)
  refused_within (j ∷ list) s [] t n bs u i e h k there refused = absurd h
  refused_within (j ∷ list) s (a ∷ as') t zero [] u i e h k there refused =
      law m s j a h.0 e h.1 (subst (λ (x : Invocation). IsStepFault m s x e) (sym (same_Some j i there)) (subst (λ v. IsStepFault m v i e) k refused))
  refused_within (j ∷ list) s (a ∷ as') t zero (b ∷ bs) u i e h k there refused = absurd k
  refused_within (j ∷ list) s (a ∷ as') t (suc n) [] u i e h k there refused = absurd k
  refused_within (j ∷ list) s (a ∷ as') t (suc n) (b ∷ bs) u i e h k there refused =
      let one = step_one m s j b a k.0 h.0 (step_of m s j b k.0 k.1) (step_of m s j a h.0 h.1) in
      refused_within list h.0 as' t n bs u i e h.2 (subst (λ v. RunsWithin m v (take n list) bs u) one.1 k.2) there refused

  pub broken : (list : List Invocation) (s : Store) (as' : List Answer) (t u : Store) (r : RunFault) → RunsWithin m s list as' t → BreaksOff m s list r u → r.fault ≡ fault.Memory
  broken list s as' t u r h b = elim b.next [
    | inl e ↦ e
    | inr (i, refused) ↦ refused_within list s as' t r.at r.answers u i r.fault h b.run refused.there refused.fault
  ]

-- The run of a purged list, invocation by invocation of the whole list

module _ (m : Machine) (l : ℕ) where
  abbrev kept_list : Bool → Invocation → List Invocation
  kept_list b i = if b then i ∷ [] else []

  answered_next : (is' : List Invocation) (s u t : Store) (as' bs : List Answer) (i : Invocation) (b : Bool) → RunsWithin m s is' as' u → IsAnsweredIf m u t i b as' bs → RunsWithin m s (is' ++ kept_list b i) bs t
  answered_next is' s u t as' bs i true h (a, step, e) = subst (λ (xs : List Answer). RunsWithin m s (is' ++ i ∷ []) xs t) (sym e) (run_one_more m is' s u t as' i a h step)
  answered_next is' s u t as' bs i false h (e, same) =
      subst (λ (js : List Invocation). RunsWithin m s js bs t) (sym (append_none is')) (subst (λ (xs : List Answer). RunsWithin m s is' xs t) (sym same) (subst (λ v. RunsWithin m s is' as' v) (sym e) h))
    where
      append_none : (js : List Invocation) → js ++ [] ≡ js
      append_none [] = refl
      append_none (j ∷ js) = ap (λ ks. j ∷ ks) (append_none js)

  pub kept_run_next : (list : List Invocation) (s u t : Store) (k : ℕ) (i : Invocation) → k < length list → i ≡ get_or list k i → (as' bs : List Answer) → RunsWithin m s (purge m l (take k list)) as' u
      → IsAnsweredIf m u t i (is_seen m l i) as' bs → RunsWithin m s (purge m l (take (k + 1) list)) bs t
  kept_run_next list s u t k i n e as' bs h answered =
      subst (λ (js : List Invocation). RunsWithin m s js bs t) (sym (purged_next m l list k i n e)) (answered_next (purge m l (take k list)) s u t as' bs i (is_seen m l i) h answered)

  pub broken_off : (list : List Invocation) (s u : Store) (k : ℕ) (i : Invocation) → slice_get list k ≡ Some i → (as' : List Answer) → RunsWithin m s (purge m l (take k list)) as' u → (e : StepFault)
      → IsKeptRefused m u i (is_seen m l i) e → IsKeptFault m s l list (record { purged = true; at = k; fault = e })
  broken_off list s u k i there as' h e (inl memory) = record { purged = refl; why = inl memory }
  broken_off list s u k i there as' h e (inr (kept, refused)) = record { purged = refl; why = inr (as', u, i, record { run = h; kept = kept; refused = record { there = there; fault = refused } }) }

-- a run that breaks off is the fault of the whole run
pub whole_fault : (m : Machine) (s : Store) (list : List Invocation) (r : RunFault) (t : Store) → BreaksOff m s list r t → IsWholeFault m s list (record { purged = false; at = r.at; fault = r.fault })
whole_fault m s list r t b = elim b.next [
  | inl e ↦ record { whole = refl; why = inl e }
  | inr (i, refused) ↦ record { whole = refl; why = inr (r.answers, t, i, record { run = b.run; refused = refused }) }
]
