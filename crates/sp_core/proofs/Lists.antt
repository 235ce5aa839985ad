-- From single steps of any step relation to lists of invocations.
use Rattle.std.proofs.Common.{◌≡◌, refl, sym, ◌∙◌, subst, ℕ, ◌<◌, Bool, true, false, List, [], ◌∷◌}
use Rattle.std.specs.Prelude.{if◌then◌else◌}
use Rattle.std.specs.List.{All}
use Rattle.std.proofs.lemmas.List.Elements.{All-head, All-tail}
use Rattle.sp_values.specs.declared.place.Invocation.{Invocation}
use Rattle.sp_core.specs.declared.function.Answer.{Answer}
use Rattle.sp_core.specs.Machine.{IsInvocation, IsState, Machine, RunBy}
use Rattle.sp_core.specs.Security.{Alike, IsSecureBy, IsSecureInSteps, is_seen, purge, seen}
use Rattle.sp_core.specs.Values.{Store}
use Rattle.sp_core.proofs.Agree.{Alike-sym, Alike-trans}

module _ (m : Machine) (Steps : Store → Invocation → Answer → Store → Type 0) (steps : IsSecureInSteps m Steps) where
  run_some : (is' : List Invocation) (s : Store) → IsState m s → All (IsInvocation m) is' → (as' : List Answer) × (t : Store) × RunBy Steps s is' as' t
  run_some [] s state calls = ([], s, refl)
  run_some (i ∷ is') s state calls =
      let call = All-head (IsInvocation m) i is' calls in
      let first = steps.some s i state call in
      let rest = run_some is' first.1 (steps.typed s first.1 i first.0 state call first.2) (All-tail (IsInvocation m) i is' calls) in
      (first.0 ∷ rest.0, rest.1, (first.1, first.2, rest.2))

  run_once : (is' : List Invocation) (s : Store) → IsState m s → All (IsInvocation m) is' → (as' bs : List Answer) (t u : Store) → RunBy Steps s is' as' t → RunBy Steps s is' bs u → (as' ≡ bs) × (t ≡ u)
  run_once [] s state calls [] [] t u h k = (refl, h ∙ sym k)
  run_once [] s state calls [] (b ∷ bs) t u h k = absurd k
  run_once [] s state calls (a ∷ as') bs t u h k = absurd h
  run_once (i ∷ is') s state calls [] bs t u h k = absurd h
  run_once (i ∷ is') s state calls (a ∷ as') [] t u h k = absurd k
  run_once (i ∷ is') s state calls (a ∷ as') (b ∷ bs) t u h k =
      let call = All-head (IsInvocation m) i is' calls in
      let first = steps.one s h.0 k.0 i a b state call h.1 k.1 in
      let rest = run_once is' h.0 (steps.typed s h.0 i a state call h.1) (All-tail (IsInvocation m) i is' calls) as' bs t u h.2 (subst (λ x. RunBy Steps x is' bs u) (sym first.1) k.2) in
      ((λ j. first.0 j ∷ rest.0 j), rest.1)

  module _ (l : ℕ) (is_level : l < m.world.sizes.levels) where
    purged : (is' : List Invocation) (s t : Store) → IsState m s → IsState m t → Alike m l s t → All (IsInvocation m) is' → (as' bs : List Answer) (s' t' : Store) → RunBy Steps s is' as' s' → RunBy Steps t (purge m l is') bs t' → (bs ≡ seen m l is' as') × Alike m l s' t'
    purged [] s t state state_t alike calls [] [] s' t' h k = (refl, subst (λ x. Alike m l x t') (sym h) (subst (Alike m l s) (sym k) alike))
    purged [] s t state state_t alike calls [] (b ∷ bs) s' t' h k = absurd k
    purged [] s t state state_t alike calls (a ∷ as') bs s' t' h k = absurd h
    purged (i ∷ is') s t state state_t alike calls [] bs s' t' h k = absurd h
    purged (i ∷ is') s t state state_t alike calls (a ∷ as') bs s' t' h k =
        by (λ u state_u alike_u bs k. purged is' h.0 u (steps.typed s h.0 i a state call h.1) state_u alike_u (All-tail (IsInvocation m) i is' calls) as' bs s' t' h.2 k) (is_seen m l i) refl bs k
      where
        call : IsInvocation m i
        call = All-head (IsInvocation m) i is' calls

        by : ((u : Store) → IsState m u → Alike m l h.0 u → (bs : List Answer) → RunBy Steps u (purge m l is') bs t' → (bs ≡ seen m l is' as') × Alike m l s' t') → (v : Bool) → is_seen m l i ≡ v → (bs : List Answer) → RunBy Steps t (if v then i ∷ purge m l is' else purge m l is') bs t' → (bs ≡ (if v then a ∷ seen m l is' as' else seen m l is' as')) × Alike m l s' t'
        by next true e [] k = absurd k
        by next true e (b ∷ bs) k =
            let first = steps.alike l s t h.0 k.0 i a b is_level state state_t call e alike h.1 k.1 in
            let rest = next k.0 (steps.typed t k.0 i b state_t call k.1) first.1 bs k.2 in
            ((λ j. first.0 j ∷ rest.0 j), rest.1)
        by next false e bs k = next t state_t (Alike-trans m l h.0 s t (Alike-sym m l s h.0 (steps.quiet l s h.0 i a is_level state call e h.1)) alike) bs k

  -- a step relation that is secure in single steps is secure
  pub secure_by : IsSecureBy m Steps
  secure_by = record {
    one_run = record {
      run = λ s is' state calls. run_some is' s state calls;
      one = λ s is' state calls as' bs t u h k. run_once is' s state calls as' bs t u h k;
    };
    hides_above = record { hides = λ l s t is' is_level state state_t alike calls as' bs s' t' h k. purged l is_level is' s t state state_t alike calls as' bs s' t' h k };
  }
