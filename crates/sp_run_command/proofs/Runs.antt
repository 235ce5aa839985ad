-- A list of invocations has one run in memory at most, or breaks off in one way, want of memory apart. For the laws of the commands.
use Rattle.std.proofs.Common.{◌≡◌, ◌≢◌, ◌⊎◌, ◌∙◌, ℕ, zero, suc, List, [], ◌∷◌, Option, None, Some, ap, inl, inr, refl, sym, subst, slice_get, take}
use Rattle.sp_values.specs.declared.place.Invocation.{Invocation}
use Rattle.sp_core.specs.declared.function.Answer.{Answer}
use Rattle.sp_core.specs.Machine.{Machine, Step}
use Rattle.sp_core.specs.Values.{Store}
use Rattle.sp_core.proofs.Steps.{step_one}
use Rattle.sp_stepping.specs.Laws.{FaultLaw, OneFaultLaw}
use Rattle.sp_stepping.specs.Stepping.{IsStepFault, StepsWithin}
use Rattle.sp_stepping.specs.declared.fault.StepFault.{StepFault}
use Rattle.sp_stepping.specs.declared.fault.StepFault.TheVariants as fault
use Rattle.sp_animator.specs.Runs.{BreaksOff, RunsWithin}
use Rattle.sp_animator.specs.declared.running.RunFault.{RunFault}

same_there : (o : Option Invocation) (i j : Invocation) → o ≡ Some i → o ≡ Some j → i ≡ j
same_there o i j p q = let e : Some i ≡ Some j = sym p ∙ q in cc

module _ (m : Machine) where
  step_of : (s : Store) (i : Invocation) (a : Answer) (t : Store) → StepsWithin m s i a t → Step m s i a t
  step_of s i a t (f, h) = (f, h.step)

  steps_one : (s : Store) (i : Invocation) (a b : Answer) (t u : Store) → StepsWithin m s i a t → StepsWithin m s i b u → (a ≡ b) × (t ≡ u)
  steps_one s i a b t u h k = step_one m s i a b t u (step_of s i a t h) (step_of s i b u k)

  pub runs_one : (list : List Invocation) (s : Store) (as' bs : List Answer) (t u : Store) → RunsWithin m s list as' t → RunsWithin m s list bs u → (as' ≡ bs) × (t ≡ u)
  runs_one [] s [] [] t u p q = (refl, p ∙ sym q)
  runs_one [] s [] (b ∷ bs) t u p q = absurd q
  runs_one [] s (a ∷ as') bs t u p q = absurd p
  runs_one (j ∷ js) s [] bs t u p q = absurd p
  runs_one (j ∷ js) s (a ∷ as') [] t u p q = absurd q
  runs_one (j ∷ js) s (a ∷ as') (b ∷ bs) t u p q =
      let one = steps_one s j a b p.0 q.0 p.1 q.1 in
      let rest = runs_one js q.0 as' bs t u (subst (λ v. RunsWithin m v js as' t) one.1 p.2) q.2 in
      (ap (λ x. x ∷ as') one.0 ∙ ap (λ xs. b ∷ xs) rest.0, rest.1)

  -- a list that has a run breaks off for want of memory alone
  module _ (law : FaultLaw) where
    pub refused_within : (list : List Invocation) (s : Store) (as' : List Answer) (t : Store) (n : ℕ) (bs : List Answer) (u : Store) (i : Invocation) (e : StepFault)
        → RunsWithin m s list as' t → RunsWithin m s (take n list) bs u → slice_get list n ≡ Some i → IsStepFault m u i e → e ≡ fault.Memory
    refused_within [] s as' t n bs u i e h k there refused = absurd cc
    refused_within (j ∷ list) s [] t n bs u i e h k there refused = absurd h
    refused_within (j ∷ list) s (a ∷ as') t zero [] u i e h k there refused =
        law m s j a h.0 e h.1 (subst (λ (x : Invocation). IsStepFault m s x e) (same_there _ i j there refl) (subst (λ v. IsStepFault m v i e) k refused))
    refused_within (j ∷ list) s (a ∷ as') t zero (b ∷ bs) u i e h k there refused = absurd k
    refused_within (j ∷ list) s (a ∷ as') t (suc n) [] u i e h k there refused = absurd k
    refused_within (j ∷ list) s (a ∷ as') t (suc n) (b ∷ bs) u i e h k there refused =
        let one = steps_one s j b a k.0 h.0 k.1 h.1 in
        refused_within list h.0 as' t n bs u i e h.2 (subst (λ v. RunsWithin m v (take n list) bs u) one.1 k.2) there refused

    pub broken : (list : List Invocation) (s : Store) (as' : List Answer) (t u : Store) (r : RunFault) → RunsWithin m s list as' t → BreaksOff m s list r u → r.fault ≡ fault.Memory
    broken list s as' t u r h b = elim b.next [
      | inl e ↦ e
      | inr (i, refused) ↦ refused_within list s as' t r.at r.answers u i r.fault h b.run refused.there refused.fault
    ]

    -- and it breaks off in one way
    module _ (one_law : OneFaultLaw) where
      -- the invocation of this number is refused after these answers
      pub record IsBreak (list : List Invocation) (s : Store) (n : ℕ) (as' : List Answer) (t : Store) (i : Invocation) (e : StepFault) : Type 0 where
        pub run : RunsWithin m s (take n list) as' t
        pub there : slice_get list n ≡ Some i
        pub refused : IsStepFault m t i e
        pub definite : e ≢ fault.Memory

      -- two ways are one
      pub record AreOne (n k : ℕ) (as' bs : List Answer) (d e : StepFault) : Type 0 where
        pub number : n ≡ k
        pub answers : as' ≡ bs
        pub fault : d ≡ e

      one_of : (d e : StepFault) → (d ≡ e) ⊎ (d ≡ fault.Memory) ⊎ (e ≡ fault.Memory) → d ≢ fault.Memory → e ≢ fault.Memory → d ≡ e
      one_of d e (inl p) is also = p
      one_of d e (inr (inl p)) is also = absurd (is p)
      one_of d e (inr (inr p)) is also = absurd (also p)

      pub breaks_one : (list : List Invocation) (s : Store) (n k : ℕ) (as' bs : List Answer) (t u : Store) (i j : Invocation) (d e : StepFault)
          → IsBreak list s n as' t i d → IsBreak list s k bs u j e → AreOne n k as' bs d e
      breaks_one [] s n k as' bs t u i j d e p q = let h = p.there in absurd cc
      breaks_one (x ∷ list) s zero zero [] [] t u i j d e p q =
          let same : i ≡ j = same_there _ i j p.there q.there in
          let refused : IsStepFault m u j d = subst (λ v. IsStepFault m v j d) (p.run ∙ sym q.run) (subst (λ (y : Invocation). IsStepFault m t y d) same p.refused) in
          record { number = refl; answers = refl; fault = one_of d e (one_law m u j d e refused q.refused) p.definite q.definite }
      breaks_one (x ∷ list) s zero zero [] (b ∷ bs) t u i j d e p q = absurd q.run
      breaks_one (x ∷ list) s zero zero (a ∷ as') bs t u i j d e p q = absurd p.run
      breaks_one (x ∷ list) s zero (suc k) (a ∷ as') bs t u i j d e p q = absurd p.run
      breaks_one (x ∷ list) s zero (suc k) [] [] t u i j d e p q = absurd q.run
      breaks_one (x ∷ list) s zero (suc k) [] (b ∷ bs) t u i j d e p q =
          let r = q.run in
          absurd (p.definite (law m s x b r.0 d r.1 (subst (λ (y : Invocation). IsStepFault m s y d) (same_there _ i x p.there refl) (subst (λ v. IsStepFault m v i d) p.run p.refused))))
      breaks_one (x ∷ list) s (suc n) zero as' (b ∷ bs) t u i j d e p q = absurd q.run
      breaks_one (x ∷ list) s (suc n) zero [] [] t u i j d e p q = absurd p.run
      breaks_one (x ∷ list) s (suc n) zero (a ∷ as') [] t u i j d e p q =
          let r = p.run in
          absurd (q.definite (law m s x a r.0 e r.1 (subst (λ (y : Invocation). IsStepFault m s y e) (same_there _ j x q.there refl) (subst (λ v. IsStepFault m v j e) q.run q.refused))))
      breaks_one (x ∷ list) s (suc n) (suc k) [] bs t u i j d e p q = absurd p.run
      breaks_one (x ∷ list) s (suc n) (suc k) (a ∷ as') [] t u i j d e p q = absurd q.run
      breaks_one (x ∷ list) s (suc n) (suc k) (a ∷ as') (b ∷ bs) t u i j d e p q =
          let h = p.run in
          let g = q.run in
          let one = steps_one s x a b h.0 g.0 h.1 g.1 in
          let rest = breaks_one list g.0 n k as' bs t u i j d e
          (record { run = subst (λ v. RunsWithin m v (take n list) as' t) one.1 h.2; there = p.there; refused = p.refused; definite = p.definite })
          (record { run = g.2; there = q.there; refused = q.refused; definite = q.definite }) in
          record { number = ap suc rest.number; answers = ap (λ y. y ∷ as') one.0 ∙ ap (λ ys. b ∷ ys) rest.answers; fault = rest.fault }
