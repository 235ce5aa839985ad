-- A step in memory excludes each fault, and there is one fault at most.
use Rattle.std.proofs.Common.{◌≡◌, refl, sym, ◌∙◌, ap, subst, arith, ℕ, zero, suc, ◌<◌, ◌≤◌, ◌⊎◌, inl, inr, Bool, true, false, List, [], ◌∷◌, take, Some}
use Rattle.std.specs.Prelude.{if◌then◌else◌, slice_get}
use Rattle.std.proofs.lemmas.Option.{none-some, same_Some}
use Rattle.sp_values.specs.declared.value.Value.{Value}
use Rattle.sp_values.specs.declared.place.Place.{Place}
use Rattle.sp_values.specs.declared.place.Invocation.{Invocation}
use Rattle.sp_core.specs.declared.function.Answer.{Answer}
use Rattle.sp_core.specs.declared.function.Function.{Function}
use Rattle.sp_core.specs.declared.state.Entry.{Entry}
use Rattle.sp_core.specs.Effects.{GuardedChange}
use Rattle.sp_core.specs.Machine.{ChangesByRank, Conflict, Machine, MeetsConflict, Outcome, Stage}
use Rattle.sp_core.specs.Ranks.{of_rank, rank_count}
use Rattle.sp_core.specs.States.{entry_of, is_at}
use Rattle.sp_core.specs.Values.{Store}
use Rattle.sp_core.proofs.Steps.{lower_made, stage_one}
use Rattle.sp_core.proofs.Unique.{no_changes}
use Rattle.sp_listing.specs.Laws.{ClashLaw, CountLaw, OrderLaw}
use Rattle.sp_listing.specs.Listing.{IsConflictAt, IsFirstConflict, IsOverfull, IsWithin}
use Rattle.sp_listing.specs.True.{true_entries}
use Rattle.sp_stepping.specs.Stepping.{AreWithin, IsChangeFault, IsConflictInRank, IsFullBefore, IsStepFault, IsStepFaultOf, StepsWithin, StepsWithinOf, changes_of}
use Rattle.sp_stepping.specs.declared.fault.StepFault.{StepFault}
use Rattle.sp_stepping.specs.declared.fault.StepFault.TheVariants as fault

-- Lists of entries

entry_later : (es : List Entry) (n k : ℕ) (e : Entry) → n < k → slice_get es n ≡ Some e → slice_get (take k es) n ≡ Some e
entry_later [] n k e l h = absurd (none-some e h)
entry_later (x ∷ es) n zero e l h = absurd (omega (arith, l))
entry_later (x ∷ es) zero (suc k) e l h = h
entry_later (x ∷ es) (suc n) (suc k) e l h = entry_later es n k e (omega (arith, l)) h

given_later : (es : List Entry) (n k : ℕ) (g : ℕ) (v : List Value) (x : Value) → n ≤ k → entry_of (take n es) g v ≡ Some x → entry_of (take k es) g v ≡ Some x
given_later [] zero k g v x l h = absurd (none-some x h)
given_later [] (suc n) k g v x l h = absurd (none-some x h)
given_later (e ∷ es) zero k g v x l h = absurd (none-some x h)
given_later (e ∷ es) (suc n) zero g v x l h = absurd (omega (arith, l))
given_later (e ∷ es) (suc n) (suc k) g v x l h = by (is_at g v e) (given_later es n k g v x (omega (arith, l))) h
  where
    by : (b : Bool) → (entry_of (take n es) g v ≡ Some x → entry_of (take k es) g v ≡ Some x) → (if b then Some e.value else entry_of (take n es) g v) ≡ Some x → (if b then Some e.value else entry_of (take k es) g v) ≡ Some x
    by true ih t = t
    by false ih t = ih t

-- an earlier conflict is none
not_earlier : (es : List Entry) (p q : Place) (x y z w : Value) (n k : ℕ) → n < k → IsConflictAt es p x y n → IsConflictAt es q z w k → ⊥
not_earlier es p q x y z w n k l h c =
    let e : Entry = record { place = p; value = y } in
    let later = c.earlier n e (entry_later es n k e l h.there) in
    let first = given_later es n k p.fun p.args x (omega (arith, l)) h.first in
    h.other (same_Some x y (sym first ∙ later))

abbrev Compared : ℕ → ℕ → Type 0
Compared n k = (n < k) ⊎ ((n ≡ k) ⊎ (k < n))

compared : (n k : ℕ) → Compared n k
compared zero zero = inr (inl refl)
compared zero (suc k) = inl (omega arith)
compared (suc n) zero = inr (inr (omega arith))
compared (suc n) (suc k) = elim (compared n k) [
  | inl l ↦ inl (omega (arith, l))
  | inr r ↦ elim r [ inl e ↦ inr (inl (ap suc e)) | inr l ↦ inr (inr (omega (arith, l))) ]
]

one_conflict : (es : List Entry) (p q : Place) (x y z w : Value) → IsFirstConflict es p x y → IsFirstConflict es q z w → fault.Conflict p x y ≡ fault.Conflict q z w
one_conflict es p q x y z w (n, h) (k, c) = elim (compared n k) [
  | inl l ↦ absurd (not_earlier es p q x y z w n k l h c)
  | inr r ↦ elim r [
    | inl e ↦ same (subst (λ j. IsConflictAt es p x y j) e h)
    | inr l ↦ absurd (not_earlier es q p z w x y k n l c h)
  ]
]
  where
    same : IsConflictAt es p x y k → fault.Conflict p x y ≡ fault.Conflict q z w
    same d =
        let there : Some (record { place = p; value = y }) ≡ Some (record { place = q; value = w }) = sym d.there ∙ c.there in
        let entry = same_Some (record { place = p; value = y }) (record { place = q; value = w }) there in
        let place : p ≡ q = ap (λ (e : Entry). e.place) entry in
        let last : y ≡ w = ap (λ (e : Entry). e.value) entry in
        let first : x ≡ z = same_Some x z (sym d.first ∙ ap (λ (r : Place). entry_of (take k es) r.fun r.args) place ∙ c.first) in
        λ j. fault.Conflict (place j) (first j) (last j)

-- Changes

module _ (order : OrderLaw) (clash : ClashLaw) (count : CountLaw) (m : Machine) (s : Store) (i : Invocation) (as' : List GuardedChange) where
  not_full : (u : Store) → IsWithin u → IsOverfull u → ⊥
  not_full u (n, has, few) (k, have, many) = let one = count u n k has have in omega (arith, one, few, many)

  pub conflict : (p : Place) (x y : Value) (k : ℕ) (u : Store) → IsConflictInRank m s i as' p x y k u → Conflict m s u i (of_rank as' k)
  conflict p x y k u h = clash m s u i (of_rank as' k) (true_entries m s u i (of_rank as' k)) (order m s u i (of_rank as' k)) p x y h.conflict

  -- behind a rank with a conflict there is no state
  none_behind : (p : Place) (x y : Value) (k : ℕ) (u : Store) → IsConflictInRank m s i as' p x y k u → (j : ℕ) (v : Store) → k < j → Stage m s i as' j v → ⊥
  none_behind p x y k u h j v l there =
      let made = lower_made m s i as' j k v l there in
      let same = stage_one m s i as' k u made.0 h.before made.2.before in
      no_changes m s made.0 i (of_rank as' k) made.1 (subst (λ w. Conflict m s w i (of_rank as' k)) same (conflict p x y k u h)) made.2.made

  excluded : (t : Store) → ChangesByRank m s i as' t → AreWithin m s i as' (rank_count as') → (e : StepFault) → IsChangeFault m s i as' e → e ≡ fault.Memory
  excluded t made within (fault.Conflict p x y) (k, u, h) = absurd (none_behind p x y k u h (rank_count as') t h.rank made)
  excluded t made within fault.StateFull (k, u, h) = absurd (not_full u (within k u h.rank h.before) h.full)
  excluded t made within fault.Memory h = refl

  -- a conflict, and a state that is too large
  not_both_faults : (p : Place) (x y : Value) (k : ℕ) (u : Store) → IsConflictInRank m s i as' p x y k u → (j : ℕ) (v : Store) → IsFullBefore m s i as' j v → ⊥
  not_both_faults p x y k u h j v c = elim (compared k j) [
    | inl l ↦ none_behind p x y k u h j v l c.before
    | inr r ↦ elim r [
      | inl e ↦ not_full v (h.within j v (omega (arith, e)) c.before) c.full
      | inr l ↦ not_full v (h.within j v (omega (arith, l)) c.before) c.full
    ]
  ]

  two_conflicts : (p q : Place) (x y z w : Value) (k j : ℕ) (u v : Store) → IsConflictInRank m s i as' p x y k u → IsConflictInRank m s i as' q z w j v → fault.Conflict p x y ≡ fault.Conflict q z w
  two_conflicts p q x y z w k j u v h c = elim (compared k j) [
    | inl l ↦ absurd (none_behind p x y k u h j v l c.before)
    | inr r ↦ elim r [
      | inl e ↦ same (subst (λ n. IsConflictInRank m s i as' q z w n v) (sym e) c)
      | inr l ↦ absurd (none_behind q z w j v c k u l h.before)
    ]
  ]
    where
      same : IsConflictInRank m s i as' q z w k v → fault.Conflict p x y ≡ fault.Conflict q z w
      same d =
          let one = stage_one m s i as' k v u d.before h.before in
          one_conflict (true_entries m s u i (of_rank as' k)) p q x y z w h.conflict (subst (λ b. IsFirstConflict (true_entries m s b i (of_rank as' k)) q z w) one d.conflict)

  abbrev OneFault : StepFault → StepFault → Type 0
  OneFault d e = (d ≡ e) ⊎ (d ≡ fault.Memory) ⊎ (e ≡ fault.Memory)

  one_change_fault : (d e : StepFault) → IsChangeFault m s i as' d → IsChangeFault m s i as' e → OneFault d e
  one_change_fault fault.Memory e h c = inr (inl refl)
  one_change_fault (fault.Conflict p x y) fault.Memory h c = inr (inr refl)
  one_change_fault fault.StateFull fault.Memory h c = inr (inr refl)
  one_change_fault fault.StateFull fault.StateFull h c = inl refl
  one_change_fault (fault.Conflict p x y) fault.StateFull (k, u, h) (j, v, c) = absurd (not_both_faults p x y k u h j v c)
  one_change_fault fault.StateFull (fault.Conflict p x y) (j, v, c) (k, u, h) = absurd (not_both_faults p x y k u h j v c)
  one_change_fault (fault.Conflict p x y) (fault.Conflict q z w) (k, u, h) (j, v, c) = inl (two_conflicts p q x y z w k j u v h c)

-- Steps

module _ (order : OrderLaw) (clash : ClashLaw) (count : CountLaw) (m : Machine) (s : Store) (i : Invocation) where
  one_function : (f g : Function) → slice_get m.functions i.fun ≡ Some f → slice_get m.functions i.fun ≡ Some g → f ≡ g
  one_function f g h k = same_Some f g (sym h ∙ k)

  pub no_fault : (a : Answer) (t : Store) (e : StepFault) → StepsWithin m s i a t → IsStepFault m s i e → e ≡ fault.Memory
  no_fault a t e (f, h) (g, d) =
      let own : StepsWithinOf m s i a t g = subst (StepsWithinOf m s i a t) (one_function f g h.step.function d.function) h in
      let made = subst (λ o. Outcome m s i g o a t) d.plain own.step.outcome in
      excluded order clash count m s i (changes_of g) t made.0 (own.within d.plain) e d.changes

  pub one_fault : (d e : StepFault) → IsStepFault m s i d → IsStepFault m s i e → (d ≡ e) ⊎ (d ≡ fault.Memory) ⊎ (e ≡ fault.Memory)
  one_fault d e (f, h) (g, k) =
      let own : IsStepFaultOf m s i d g = subst (IsStepFaultOf m s i d) (one_function f g h.function k.function) h in
      one_change_fault order clash count m s i (changes_of g) d e own.changes k.changes

  -- an invocation that is refused for a conflict meets one
  pub met : (p : Place) (x y : Value) → IsStepFault m s i (fault.Conflict p x y) → MeetsConflict m s i
  met p x y (f, h) =
      let c = h.changes in (
        f,
        record {
          function = h.function;
          plain = h.plain;
          conflict = (c.0, c.1, record { rank = c.2.rank; before = c.2.before; conflict = conflict order clash count m s i (changes_of f) p x y c.0 c.1 c.2 });
        },
      )
