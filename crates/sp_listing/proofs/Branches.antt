-- What the walk over an effect lists: the entries of the change of a number, by the branch or the body in which it stands.
use Rattle.std.proofs.Common.{◌≡◌, refl, sym, ◌∙◌, ap, arith, ℕ, ◌+◌, ◌-◌, ◌<◌, ◌≤◌, Bool, true, false, List, [], ◌∷◌, ◌++◌, length, map, Some, append_assoc}
use Rattle.std.specs.Prelude.{slice_get, if◌then◌else◌, Result, Ok, Err, OnOk, not}
use Rattle.std.specs.List.{flat_map, range_with_len}
use Rattle.std.proofs.lemmas.List.{append-nil, length-map}
use Rattle.std.proofs.lemmas.List.FromFn.{map-range_with_len_more}
use Rattle.std.proofs.lemmas.Grind.{flat_map-append}
use Rattle.sp_values.specs.declared.value.Ty.{Ty}
use Rattle.sp_values.specs.declared.value.Value.{Value}
use Rattle.sp_values.specs.Domains.{proper_values}
use Rattle.sp_core.specs.declared.state.Entry.{Entry}
use Rattle.sp_core.specs.Effects.{GuardedChange, EffectTree, EffectTrees, If, Every, change_under, change_within, changes, changes_in}
use Rattle.sp_core.specs.Machine.{value_at}
use Rattle.sp_core.specs.Parts.{signature}
use Rattle.sp_core.specs.States.{entry_of}
use Rattle.sp_core.specs.Tree.{Tree, Not}
use Rattle.sp_core.specs.Values.{is_true}
use Rattle.sp_core.proofs.Bindings.{length_values}
use Rattle.sp_eval.specs.Settings.{Setting, proper_at, sizes}
use Rattle.sp_listing.specs.Conditions.{IsConditionIn, IsEffectIn, machine}
use Rattle.sp_listing.specs.True.{entries_at}
use Rattle.sp_listing.proofs.Typed.{if_condition}
use Rattle.sp_listing.proofs.Walks.{entries_under, entries_within, get_left, get_mapped, get_right}

pub on_ok : {A E : Type 0} (P Q : Type 0) (r : Result A E) → (P → Q) → OnOk r P → OnOk r Q
on_ok P Q (Ok v) f h = f h
on_ok P Q (Err e) f h = tt

module _ (s : Setting) (x : List Value) where
  -- the entries of a change in environment x
  abbrev pub entries : List Value → GuardedChange → List Entry
  entries y a = entries_at (machine s) (entry_of s.old) (entry_of s.new) y a

  abbrev pub is_true_at : Tree → Bool
  is_true_at c = is_true (value_at (machine s) (entry_of s.old) x c)

  -- the change of number n of these is listed
  abbrev pub IsListed : List Entry → List Entry → List GuardedChange → ℕ → Type 0
  IsListed old new as' n = (a : GuardedChange) → slice_get as' n ≡ Some a → new ≡ old ++ entries x a

  under : (c : Tree) → IsConditionIn s x c → (a : GuardedChange) → entries x (change_under c a) ≡ (if is_true_at c then entries x a else [])
  under c h a = entries_under (machine s) (entry_of s.old) (entry_of s.new) (signature s.parts) h.0 _ c h.1.expression.typed x (length_values (sizes s) h.0 x h.1.environment.values) a

  under_not : (c : Tree) → IsConditionIn s x c → (a : GuardedChange) → entries x (change_under (Not c) a) ≡ (if not (is_true_at c) then entries x a else [])
  under_not c h a = entries_under (machine s) (entry_of s.old) (entry_of s.new) (signature s.parts) h.0 _ (Not c) (refl, h.1.expression.typed) x (length_values (sizes s) h.0 x h.1.environment.values) a

  nothing_more : (old es : List Entry) → es ≡ [] → old ≡ old ++ es
  nothing_more old es e = sym (append-nil old) ∙ ap (λ fs. old ++ fs) (sym e)

  module _ (w : EffectTree) (c : Tree) (as' bs : EffectTrees) (form : w ≡ If c as' bs) (typed : IsEffectIn s x w) (b : Bool) (is : b ≡ is_true_at c) (n k : ℕ) (count : k ≡ length (changes_in as')) (old new : List Entry) where
    then_one : n < k → (a : GuardedChange) → slice_get (changes w) n ≡ Some a → (d : GuardedChange) × (slice_get (changes_in as') n ≡ Some d) × (entries x a ≡ (if b then entries x d else []))
    then_one l a there =
        let many = length-map (changes_in as') (change_under c) in
        let front = sym (get_left (map (change_under c) (changes_in as')) (map (change_under (Not c)) (changes_in bs)) n (omega (arith, l, count, many))) in
        let q = get_mapped (change_under c) (changes_in as') n a (front ∙ ap (λ v. slice_get (changes v) n) (sym form) ∙ there) in
        (q.0, q.1, ap (λ d. entries x d) q.2 ∙ under c (if_condition s x w c as' bs form typed) q.0 ∙ ap (λ t. if t then entries x q.0 else []) (sym is))

    else_one : k ≤ n → (a : GuardedChange) → slice_get (changes w) n ≡ Some a → (d : GuardedChange) × (slice_get (changes_in bs) (n - k) ≡ Some d) × (entries x a ≡ (if not b then entries x d else []))
    else_one l a there =
        let many = length-map (changes_in as') (change_under c) in
        let behind = sym (get_right (map (change_under c) (changes_in as')) (map (change_under (Not c)) (changes_in bs)) n (omega (arith, l, count, many))) in
        let place : n - k ≡ n - length (map (change_under c) (changes_in as')) = omega (arith, count, many) in
        let q = get_mapped (change_under (Not c)) (changes_in bs) (n - k) a (ap (λ j. slice_get (map (change_under (Not c)) (changes_in bs)) j) place ∙ behind ∙ ap (λ v. slice_get (changes v) n) (sym form) ∙ there) in
        (q.0, q.1, ap (λ d. entries x d) q.2 ∙ under_not c (if_condition s x w c as' bs form typed) q.0 ∙ ap (λ t. if not t then entries x q.0 else []) (sym is))

    pub then_skipped : n < k → b ≡ false → IsListed old old (changes w) n
    then_skipped l f a there = let q = then_one l a there in nothing_more old (entries x a) (q.2 ∙ ap (λ t. if t then entries x q.0 else []) f)

    pub then_listed : n < k → b ≡ true → IsListed old new (changes_in as') n → IsListed old new (changes w) n
    then_listed l t h a there = let q = then_one l a there in h q.0 q.1 ∙ ap (λ es. old ++ es) (sym (q.2 ∙ ap (λ t. if t then entries x q.0 else []) t))

    pub else_skipped : k ≤ n → b ≡ true → IsListed old old (changes w) n
    else_skipped l t a there = let q = else_one l a there in nothing_more old (entries x a) (q.2 ∙ ap (λ t. if not t then entries x q.0 else []) t)

    pub else_listed : k ≤ n → b ≡ false → IsListed old new (changes_in bs) (n - k) → IsListed old new (changes w) n
    else_listed l f h a there = let q = else_one l a there in h q.0 q.1 ∙ ap (λ es. old ++ es) (sym (q.2 ∙ ap (λ t. if not t then entries x q.0 else []) f))

  -- it is listed for each of these values behind the environment
  abbrev pub AreListedFor : List Value → List Entry → List Entry → List GuardedChange → ℕ → Type 0
  AreListedFor cs old new as' n = (a : GuardedChange) → slice_get as' n ≡ Some a → new ≡ old ++ flat_map (λ c. entries (x ++ c ∷ []) a) cs

  pub every_listed : (w : EffectTree) (k : ℕ) (t : Ty) (ws : EffectTrees) → w ≡ Every k t ws → (n : ℕ) (old new : List Entry) → AreListedFor (proper_values (sizes s) t) old new (changes_in ws) n → IsListed old new (changes w) n
  every_listed w k t ws form n old new h a there =
      let q = get_mapped (change_within t) (changes_in ws) n a (ap (λ v. slice_get (changes v) n) (sym form) ∙ there) in
      h q.0 q.1 ∙ ap (λ es. old ++ es) (sym (ap (λ d. entries x d) q.2 ∙ entries_within (machine s) (entry_of s.old) (entry_of s.new) x t q.0))

  pub listed_next : (t : Ty) (k : ℕ) (old new next : List Entry) (as' : List GuardedChange) (n : ℕ) → AreListedFor (map (proper_at t) (range_with_len 0 k)) old new as' n
      → (y : List Value) → y ≡ x ++ proper_at t k ∷ [] → ((a : GuardedChange) → slice_get as' n ≡ Some a → next ≡ new ++ entries y a) → AreListedFor (map (proper_at t) (range_with_len 0 (k + 1))) old next as' n
  listed_next t k old new next as' n h y at one a there =
      one a there ∙ (λ i. h a there i ++ entries (at i) a)
      ∙ append_assoc old (flat_map (λ c. entries (x ++ c ∷ []) a) (map (proper_at t) (range_with_len 0 k))) (entries (x ++ proper_at t k ∷ []) a)
      ∙ ap (λ es. old ++ es) (ap (λ es. flat_map (λ c. entries (x ++ c ∷ []) a) (map (proper_at t) (range_with_len 0 k)) ++ es) (sym (append-nil (entries (x ++ proper_at t k ∷ []) a)))
      ∙ sym (flat_map-append (λ c. entries (x ++ c ∷ []) a) (map (proper_at t) (range_with_len 0 k)) (proper_at t k ∷ [])))
      ∙ ap (λ cs. old ++ flat_map (λ c. entries (x ++ c ∷ []) a) cs) (sym (map-range_with_len_more (proper_at t) 0 k k (omega arith)))
