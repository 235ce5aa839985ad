-- The specification of files without the exceptions of `write` isn't secure, and one without functions is.
use Rattle.std.proofs.Common.{◌≡◌, refl, sym, ◌∙◌, ap, subst, arith, ℕ, List, [], ◌∷◌, Some}
use Rattle.std.specs.Prelude.{pos, codes, slice_get}
use Rattle.std.specs.List.{All}
use Rattle.std.proofs.lemmas.List.Elements.{All-cons, All-nil, All-head}
use Rattle.sp_lattice.specs.Order.{IsLatticeOrder, Order}
use Rattle.sp_values.specs.declared.place.Invocation.{Invocation}
use Rattle.sp_values.specs.declared.value.Value.TheVariants as value
use Rattle.sp_core.specs.declared.function.Answer.{Answer}
use Rattle.sp_core.specs.declared.function.Answer.TheVariants as answer
use Rattle.sp_core.specs.declared.function.Function.{Function}
use Rattle.sp_core.specs.Instances.{Filling, IsSecure, filling_of, machine_of}
use Rattle.sp_core.specs.Machine.{IsInvocation, Machine, Run, initial_state}
use Rattle.sp_core.specs.Parts.{Parts, signature}
use Rattle.sp_core.specs.Security.{Alike, HasOneRun, HidesAbove, purge, seen}
use Rattle.sp_core.specs.Values.{Store}
use Rattle.sp_core.specs.WellFormed.{IsFunction, IsWellFormed}
use Rattle.sp_core.proofs.Levels.{initial_typed}
use Rattle.sp_core.proofs.TreeLemmas.{tree_lemmas}
use Rattle.sp_examples.specs.Common.{IsLowHigh}
use Rattle.sp_examples.specs.Theorems.{silent}
use Rattle.sp_examples.specs.WorkedFiles.{leaky, read_function, small, write_function}
use Rattle.sp_examples.proofs.Parts.{over_fine}
use Rattle.sp_examples.proofs.WorkedLemmas.{high_not_below, leaky_answers, low_below, read_step, reads, small_is_admissible, small_is_instance, writes, written}

abbrev machine : Order → Machine
machine o = machine_of (leaky o) (filling_of small)

calls : (o : Order) → All (IsInvocation (machine o)) (writes ∷ reads ∷ [])
calls o =
    All-cons (IsInvocation (machine o)) writes (reads ∷ []) (write_function [], record { function = refl; visible = refl; arguments = refl })
    (All-cons (IsInvocation (machine o)) reads [] (read_function, record { function = refl; visible = refl; arguments = refl }) (All-nil (IsInvocation (machine o))))

purged_list : (o : Order) → IsLowHigh o → purge (machine o) 0 (writes ∷ reads ∷ []) ≡ reads ∷ []
purged_list o h = simp (tree_lemmas, low_below o h, high_not_below o h) refl

seen_list : (o : Order) → IsLowHigh o → (a b : Answer) → seen (machine o) 0 (writes ∷ reads ∷ []) (a ∷ b ∷ []) ≡ b ∷ []
seen_list o h a b = simp (tree_lemmas, low_below o h, high_not_below o h) refl

purged_run : (o : Order) → IsLowHigh o → Run (machine o) initial_state (reads ∷ []) (answer.Value (value.Int (pos 0)) ∷ []) initial_state
purged_run o h = (initial_state, read_step [] (codes "leaky") o h initial_state (value.Int (pos 0)) (simp tree_lemmas refl), refl)

-- purged, bob reads the initial value; else what alice wrote
pub leaky_is_not_secure : (o : Order) → IsLatticeOrder o → IsLowHigh o → IsSecure (leaky o) → ⊥
leaky_is_not_secure o lattice h secure =
    let own = secure (filling_of small) (small_is_instance [] (codes "leaky") o h.count_same).instance (small_is_admissible [] (codes "leaky") o) in
    let r = own.hides_above.hides 0 initial_state initial_state (writes ∷ reads ∷ []) lattice.some (initial_typed (machine o)) (initial_typed (machine o)) (record { same = λ g v n. refl }) (calls o)
    (answer.Done ∷ answer.Value (value.Int (pos 7)) ∷ []) (answer.Value (value.Int (pos 0)) ∷ []) written initial_state (leaky_answers o h) (subst (λ is'. Run (machine o) initial_state is' (answer.Value (value.Int (pos 0)) ∷ []) initial_state) (sym (purged_list o h)) (purged_run o h)) in
    let e : answer.Value (value.Int (pos 0)) ∷ [] ≡ answer.Value (value.Int (pos 7)) ∷ [] = r.0 ∙ seen_list o h answer.Done (answer.Value (value.Int (pos 7))) in
    cc

-- a specification without functions is secure
module _ (p : Parts) (none : p.functions ≡ []) where
  nobody : (i : Filling) (inv : Invocation) → IsInvocation (machine_of p i) inv → ⊥
  nobody i inv h = let e : slice_get [] inv.fun ≡ Some h.0 = ap (λ fs. slice_get fs inv.fun) (sym none) ∙ h.1.function in cc

  one : (i : Filling) → HasOneRun (machine_of p i)
  one i = record {
    run = λ s is' state calls. run s is' calls;
    one = λ s is' state calls as' bs t u h k. same s is' calls as' bs t u h k;
  }
    where
      run : (s : Store) (is' : List Invocation) → All (IsInvocation (machine_of p i)) is' → (as' : List Answer) × (t : Store) × Run (machine_of p i) s is' as' t
      run s [] c = ([], s, refl)
      run s (inv ∷ is') c = absurd (nobody i inv (All-head (IsInvocation (machine_of p i)) inv is' c))

      same : (s : Store) (is' : List Invocation) → All (IsInvocation (machine_of p i)) is' → (as' bs : List Answer) (t u : Store) → Run (machine_of p i) s is' as' t → Run (machine_of p i) s is' bs u → (as' ≡ bs) × (t ≡ u)
      same s [] c [] [] t u h k = (refl, h ∙ sym k)
      same s [] c [] (b ∷ bs) t u h k = absurd k
      same s [] c (a ∷ as') bs t u h k = absurd h
      same s (inv ∷ is') c as' bs t u h k = absurd (nobody i inv (All-head (IsInvocation (machine_of p i)) inv is' c))

  hides : (i : Filling) → HidesAbove (machine_of p i)
  hides i = record { hides = λ l s t is' level state other alike calls as' bs s' t' h k. by l s t is' alike calls as' bs s' t' h k }
    where
      by : (l : ℕ) (s t : Store) (is' : List Invocation) → Alike (machine_of p i) l s t → All (IsInvocation (machine_of p i)) is' → (as' bs : List Answer) (s' t' : Store) → Run (machine_of p i) s is' as' s' → Run (machine_of p i) t (purge (machine_of p i) l is') bs t' → (bs ≡ seen (machine_of p i) l is' as') × Alike (machine_of p i) l s' t'
      by l s t [] alike c [] [] s' t' h k = (refl, subst (λ x. Alike (machine_of p i) l x t') (sym h) (subst (Alike (machine_of p i) l s) (sym k) alike))
      by l s t [] alike c [] (b ∷ bs) s' t' h k = absurd k
      by l s t [] alike c (a ∷ as') bs s' t' h k = absurd h
      by l s t (inv ∷ is') alike c as' bs s' t' h k = absurd (nobody i inv (All-head (IsInvocation (machine_of p i)) inv is' c))

  pub nothing_is_secure : IsSecure p
  nothing_is_secure i inst adm = record { one_run = one i; hides_above = hides i }

pub silent_well_formed : (o : Order) → IsLatticeOrder o → o.count ≡ 2 → IsWellFormed (silent o)
silent_well_formed o lattice two = over_fine (codes "silent") [] [] o lattice two refl (omega arith) (omega arith) none
  where
    none : (g : ℕ) (f : Function) → slice_get [] g ≡ Some f → IsFunction (signature (silent o)) g f
    none g f e = cc
