-- States stay states: by putting a typed value at a place, by changes, and so by a step. What a step answers is typed.
use Rattle.std.proofs.Common.{◌≡◌, refl, sym, ◌∙◌, ap, subst, ℕ, zero, suc, Bool, true, false, ◌==◌, ◌&&◌, List, ◌++◌, Option, Some, None, inl, inr}
use Rattle.std.specs.Prelude.{IsTrue, if◌then◌else◌}
use Rattle.std.specs.List.{Contains}
use Rattle.std.proofs.lemmas.Bool.Decides.{Decides-eqb}
use Rattle.sp_values.specs.declared.value.Value.{Value}
use Rattle.sp_values.specs.declared.value.Ty.{Ty}
use Rattle.sp_values.specs.declared.place.Invocation.{Invocation}
use Rattle.sp_values.specs.Domains.{are_values, is_value}
use Rattle.sp_values.specs.Identity.{same_values, same_values-Decides}
use Rattle.sp_core.specs.declared.function.Answer.{Answer}
use Rattle.sp_core.specs.declared.function.Answer.TheVariants as answer
use Rattle.sp_core.specs.declared.function.Function.{Function}
use Rattle.sp_core.specs.declared.function.Kind.{Kind}
use Rattle.sp_core.specs.declared.function.Kind.TheVariants as kind
use Rattle.sp_core.specs.Effects.{GuardedChange, changes_in, effect_trees, results_in}
use Rattle.sp_core.specs.Instances.{Filling, IsInstance, machine_of, sizes_of, world_of}
use Rattle.sp_core.specs.Machine.{AreBindings, Changes, IsEntry, IsInvocation, IsInvocationOf, IsState, Machine, Outcome, Replies, Stage, Step, StepOf, first_exception, given, target, types_of}
use Rattle.sp_core.specs.Parts.{Parts, signature}
use Rattle.sp_core.specs.Ranks.{of_rank, rank_count}
use Rattle.sp_core.specs.States.{put_at}
use Rattle.sp_core.specs.Typing.{answer_type, read_type}
use Rattle.sp_core.specs.Values.{Store, look, value_over}
use Rattle.sp_core.specs.WellFormed.{IsKind, IsWellFormed}
use Rattle.sp_core.proofs.Bindings.{are_values-append, arguments_typed, bindings_typed}
use Rattle.sp_core.proofs.EffectsTyped.{IsTypedChange, change_typed, initial_of, result_typed}
use Rattle.sp_core.proofs.Elements.{slice_contains}
use Rattle.sp_core.proofs.RankLemmas.{among_rank}
use Rattle.sp_core.proofs.Types.{all_typed, look_typed, typed}
use Rattle.sp_core.proofs.Unique.{hit}

-- putting a value of its type at a place keeps a state
pub put_typed : (m : Machine) (s : Store) (g : ℕ) (v : List Value) (x : Value) → IsState m s → IsEntry m g v x → IsState m (put_at g v x s)
put_typed m s g v x state fits = record { entries = λ h u y e. by h u y (g == h) refl (same_values v u) refl e }
  where
    by : (h : ℕ) (u : List Value) (y : Value) (a : Bool) → (g == h) ≡ a → (b : Bool) → same_values v u ≡ b → (if a && b then Some x else s h u) ≡ Some y → IsEntry m h u y
    by h u y true p true q e =
        let one : x ≡ y = cc in
        subst (λ y. IsEntry m h u y) one (subst (λ u. IsEntry m h u x) ((same_values-Decides v u).0 q) (subst (λ h. IsEntry m h v x) ((Decides-eqb g h).0 p) fits))
    by h u y true p false q e = state.entries h u y e
    by h u y false p b q e = state.entries h u y e

-- the invoked function of a step is that of the invocation
pub own_step : (m : Machine) (s t : Store) (i : Invocation) (a : Answer) (f : Function) → IsInvocationOf m i f → Step m s i a t → StepOf m s i a t f
own_step m s t i a f call h =
    let there : Some h.0 ≡ Some f = sym h.1.function ∙ call.function in
    let one : h.0 ≡ f = cc in
    subst (StepOf m s i a t) one h.1

module _ (p : Parts) (i : Filling) (wf : IsWellFormed p) (inst : IsInstance p i) (inv : Invocation) (f : Function) (call : IsInvocationOf (machine_of p i) inv f) where
  abbrev m : Machine
  m = machine_of p i

  abbrev all : List GuardedChange
  all = changes_in (effect_trees f.kind)

  -- the arguments are typed, and so is the environment of a change
  pub args_typed : are_values (sizes_of p i) (types_of f.formals) inv.args ≡ true
  args_typed = arguments_typed (sizes_of p i) (types_of f.formals) inv.args call.arguments

  pub environment : (ts : List Ty) (cs : List Value) → AreBindings (world_of p i) ts cs → are_values (sizes_of p i) (types_of f.formals ++ ts) (inv.args ++ cs) ≡ true
  environment ts cs bound = are_values-append (sizes_of p i) (types_of f.formals) ts inv.args cs args_typed (bindings_typed (world_of p i) ts cs bound)

  pub own_change_typed : (a : GuardedChange) → Contains (changes_in (effect_trees f.kind)) a → IsTypedChange (signature p) (types_of f.formals) a
  own_change_typed a of = change_typed (signature p) (types_of f.formals) inv.fun f.kind (wf.functions inv.fun f call.function).kind a of

  -- a change names a place and gives it a value of its type, over any two states
  pub change_entry : (s u : Store) → IsState (machine_of p i) s → IsState (machine_of p i) u → (a : GuardedChange) (cs : List Value) → Contains (changes_in (effect_trees f.kind)) a → AreBindings (world_of p i) a.vars cs
      → IsEntry (machine_of p i) a.fun (target (machine_of p i) s u inv a cs) (given (machine_of p i) s u inv a cs)
  change_entry s u state new_state a cs of bound =
      let h = own_change_typed a of in
      let init = initial_of h.0.kind h.1 h.2.primitive in
      let env = environment a.vars cs bound in (
        h.0,
        h.1,
        init.0,
        record { function = h.2.function; primitive = init.1; arguments = all_typed p i wf inst s u state new_state (types_of f.formals ++ a.vars) (inv.args ++ cs) a.args (types_of h.0.formals) env h.2.args },
        typed p i wf inst s u state new_state (types_of f.formals ++ a.vars) (inv.args ++ cs) a.value h.1 env h.2.value,
      )

  -- changes of it lead from states to a state
  pub changes_typed : (s u t : Store) (as' : List GuardedChange) → IsState (machine_of p i) s → IsState (machine_of p i) u → ((a : GuardedChange) → Contains as' a → Contains (changes_in (effect_trees f.kind)) a) → Changes (machine_of p i) s u inv as' t → IsState (machine_of p i) t
  changes_typed s u t as' state new_state among made = record {
    entries = λ g v x e. elim (hit m s u inv as' g v) [
      | inl c ↦
          let there : Some x ≡ Some (given m s u inv c.0 c.1) = sym e ∙ (λ j. t (sym c.3.0 j) (sym c.3.1 j)) ∙ made.named c.0 c.1 c.2 in
          let same : given m s u inv c.0 c.1 ≡ x = cc in
          let entry = change_entry s u state new_state c.0 c.1 (among c.0 c.2.of) c.2.bindings in
          subst (IsEntry m g v) same (subst (λ y. IsEntry m g y (given m s u inv c.0 c.1)) c.3.1 (subst (λ h. IsEntry m h (target m s u inv c.0 c.1) (given m s u inv c.0 c.1)) c.3.0 entry))
      | inr n ↦ new_state.entries g v x (sym (made.others g v n) ∙ e)
    ];
  }

  -- before each rank there is a state
  pub stage_typed : (s : Store) → IsState (machine_of p i) s → (k : ℕ) (u : Store) → Stage (machine_of p i) s inv (changes_in (effect_trees f.kind)) k u → IsState (machine_of p i) u
  stage_typed s state zero u h = subst (IsState m) (sym h) state
  stage_typed s state (suc k) u h = changes_typed s h.0 u (of_rank all k) state (stage_typed s state k h.0 h.1) (among_rank all k) h.2

  pub step_of_typed : (s : Store) → IsState (machine_of p i) s → (a : Answer) (t : Store) → StepOf (machine_of p i) s inv a t f → IsState (machine_of p i) t
  step_of_typed s state a t h = by (first_exception m s inv f) h.outcome
    where
      by : (o : Option ℕ) → Outcome (machine_of p i) s inv f o a t → IsState (machine_of p i) t
      by (Some n) h = subst (IsState m) (sym h.1) state
      by None h = stage_typed s state (rank_count all) t h.0

  -- what it looks at is of its type
  looked : (s : Store) → IsState (machine_of p i) s → (v : Value) (t : Ty) → read_type f.kind ≡ Some t → answer.Value v ≡ answer.Value (look (world_of p i) p.functions s inv.fun inv.args) → IsTrue (is_value (sizes_of p i) t v)
  looked s state v t reads e =
      let one : v ≡ look (world_of p i) p.functions s inv.fun inv.args = cc in
      subst (λ y. IsTrue (is_value (sizes_of p i) t y)) (sym one) (look_typed p i wf inst s state inv.fun f t inv.args tt call.function reads args_typed)

  -- the value that it answers is of its type
  replies_typed : (s u : Store) → IsState (machine_of p i) s → IsState (machine_of p i) u → (v : Value) (k : Kind) → f.kind ≡ k → IsKind (signature p) (types_of f.formals) inv.fun k → Replies (machine_of p i) s u inv k (answer.Value v)
      → (t : Ty) × (answer_type k ≡ Some t) × IsTrue (is_value (sizes_of p i) t v)
  replies_typed s u state new_state v (kind.Primitive t e) q fine h = (t, refl, looked s state v t (ap read_type q) h)
  replies_typed s u state new_state v (kind.Derived t e) q fine h = (t, refl, looked s state v t (ap read_type q) h)
  replies_typed s u state new_state v (kind.Operation es) q fine h = cc
  replies_typed s u state new_state v (kind.Both t es) q fine h =
      let r = h.1 in
      let k = kind.Both t es in
      let own = result_typed (signature p) (types_of f.formals) inv.fun k fine r.1 (slice_contains (results_in (effect_trees k)) r.0 r.1 r.2.there) in
      let value = typed p i wf inst s u state new_state (types_of f.formals) inv.args r.1.value own.0 args_typed own.2.value in
      let one : h.0 ≡ v = cc in
      let same : own.0 ≡ t = cc in
      (t, refl, subst (λ y. IsTrue (is_value (sizes_of p i) t y)) (sym r.2.value ∙ one) (subst (λ w. IsTrue (is_value (sizes_of p i) w (value_over (world_of p i) p.functions s u inv.args r.1.value))) same value))

pub step_typed : (p : Parts) (i : Filling) → IsWellFormed p → IsInstance p i → (s : Store) → IsState (machine_of p i) s → (inv : Invocation) (a : Answer) (t : Store) → IsInvocation (machine_of p i) inv → Step (machine_of p i) s inv a t → IsState (machine_of p i) t
step_typed p i wf inst s state inv a t call h = step_of_typed p i wf inst inv call.0 call.1 s state a t (own_step (machine_of p i) s t inv a call.0 call.1 h)

pub answer_typed : (p : Parts) (i : Filling) → IsWellFormed p → IsInstance p i → (s : Store) → IsState (machine_of p i) s → (inv : Invocation) (f : Function) → IsInvocationOf (machine_of p i) inv f → (v : Value) (t : Store) → Step (machine_of p i) s inv (answer.Value v) t
    → (u : Ty) × (answer_type f.kind ≡ Some u) × IsTrue (is_value (sizes_of p i) u v)
answer_typed p i wf inst s state inv f call v t h = by (first_exception (machine_of p i) s inv f) own.outcome
  where
    own : StepOf (machine_of p i) s inv (answer.Value v) t f
    own = own_step (machine_of p i) s t inv (answer.Value v) f call h

    by : (o : Option ℕ) → Outcome (machine_of p i) s inv f o (answer.Value v) t → (u : Ty) × (answer_type f.kind ≡ Some u) × IsTrue (is_value (sizes_of p i) u v)
    by (Some n) k = cc
    by None k = replies_typed p i wf inst inv f call s t state (step_of_typed p i wf inst inv f call s state (answer.Value v) t own) v f.kind refl (wf.functions inv.fun f call.function).kind k.1
