-- The third fact: an invocation at or below a level answers the same from states that are alike there, and leads to alike
-- ones. Each change that is made at or below the level in the one state is made in the other; by induction on ranks.
use Rattle.std.proofs.Common.{◌≡◌, refl, sym, ◌∙◌, ap, subst, ℕ, zero, suc, ◌<◌, true, List, ◌++◌, Option, Some, None, inl, inr}
use Rattle.std.specs.Prelude.{IsTrue, slice_get}
use Rattle.std.specs.List.{All, Contains}
use Rattle.std.proofs.lemmas.List.Elements.{All-weaker}
use Rattle.sp_values.specs.declared.value.Value.{Value}
use Rattle.sp_values.specs.declared.place.Invocation.{Invocation}
use Rattle.sp_lattice.specs.Order.{is_below}
use Rattle.sp_core.specs.declared.function.Answer.{Answer}
use Rattle.sp_core.specs.declared.function.Answer.TheVariants as answer
use Rattle.sp_core.specs.declared.function.Function.{Function}
use Rattle.sp_core.specs.declared.function.Kind.{Kind}
use Rattle.sp_core.specs.declared.function.Kind.TheVariants as kind
use Rattle.sp_core.specs.Effects.{GuardedChange, GuardedResult, changes_in, effect_trees, results_in}
use Rattle.sp_core.specs.Instances.{Filling, IsInstance, machine_of}
use Rattle.sp_core.specs.Laws.{IsCondition, IsGuard}
use Rattle.sp_core.specs.Machine.{AreBindings, Changes, IsHeld, IsInvocation, IsInvocationOf, IsResult, IsState, IsTrueChange, Machine, Outcome, Replies, Stage, Step, StepOf, first_exception, given, target, types_of, value_at}
use Rattle.sp_core.specs.Parts.{Parts, signature}
use Rattle.sp_core.specs.Ranks.{of_rank, rank_count}
use Rattle.sp_core.specs.Security.{Alike, IsLow, is_seen}
use Rattle.sp_core.specs.Typing.{read_type}
use Rattle.sp_core.specs.Values.{Store, look, value_over}
use Rattle.sp_core.specs.WellFormed.{IsKind, IsWellFormed}
use Rattle.sp_core.proofs.Agree.{Alike-sym}
use Rattle.sp_core.proofs.EffectsTyped.{guards_typed, result_typed}
use Rattle.sp_core.proofs.Elements.{slice_contains}
use Rattle.sp_core.proofs.Levels.{same_entry}
use Rattle.sp_core.proofs.RankLemmas.{among_rank}
use Rattle.sp_core.proofs.StatesTyped.{args_typed, environment, own_change_typed, own_step, stage_typed}
use Rattle.sp_core.proofs.Unique.{hit}
use Rattle.sp_flow.specs.Flows.{CallFlows, ChangeFlows, FlowsUpward, IsUnder, ReadsUnder, ResultFlows, call_level, denials, place_level}
use Rattle.sp_flow.proofs.Calls.{call_is_level, guard_same, own_same, place_is_level, tests_carried}
use Rattle.sp_flow.proofs.Exceptions.{denied, exceptions_same}
use Rattle.sp_flow.proofs.Reference.{look_alike, reference, references}

module _ (p : Parts) (i : Filling) (wf : IsWellFormed p) (inst : IsInstance p i) (flow : FlowsUpward (machine_of p i)) (l : ℕ) (is_level : l < p.lattice.count) where
  abbrev m : Machine
  m = machine_of p i

  module _ (inv : Invocation) (f : Function) (call : IsInvocationOf m inv f) (low : IsUnder m l inv.fun inv.args) where
    abbrev all : List GuardedChange
    all = changes_in (effect_trees f.kind)

    -- a change that is made over the pair s and u is made over t and v, and names and gives the same
    record IsCarried (s u t v : Store) (a : GuardedChange) (cs : List Value) : Type 0 where
      held : All (IsHeld m t (inv.args ++ cs)) a.guards
      target_same : target m t v inv a cs ≡ target m s u inv a cs
      given_same : given m t v inv a cs ≡ given m s u inv a cs

    -- one that names a place at or below l, over pairs that are alike at l
    carried : (s u t v : Store) → IsState m s → IsState m u → Alike m l s t → Alike m l u v → (a : GuardedChange) (cs : List Value) → Contains (changes_in (effect_trees f.kind)) a → AreBindings m.world a.vars cs → ChangeFlows m s u inv a cs
        → All (IsHeld m s (inv.args ++ cs)) a.guards → IsTrue (is_below p.lattice (place_level m s u inv a cs) l) → IsCarried s u t v a cs
    carried s u t v state new_state alike new_alike a cs of bound flows held there =
        let is_top = place_is_level p i wf inst inv f call s u state new_state a cs of bound in
        let top = place_level m s u inv a cs in
        let xs = types_of f.formals in
        let own = own_change_typed p i wf inst inv f call a of in
        let env = environment p i wf inst inv f call a.vars cs bound in
        let guards = guards_typed (signature p) xs inv.fun f.kind (wf.functions inv.fun f call.function).kind a of in
        let each = All-weaker (IsGuard (signature p) (types_of f.formals) a.vars) (λ c. ReadsUnder m s s (inv.args ++ cs) top c → value_at m s (inv.args ++ cs) c ≡ value_at m t (inv.args ++ cs) c)
        (λ c g reads. guard_same p i wf inst inv f call flow.derivations l is_level s t state alike top is_top there a.vars cs bound c g reads) a.guards guards in
        record {
          held = tests_carried m s t top (inv.args ++ cs) a.guards each flows.guards held;
          target_same = sym (references p i wf inst flow.derivations l is_level s u t v state new_state alike new_alike (call_level m inv) (call_is_level p i wf inst inv f call) low a.args (xs ++ a.vars) (inv.args ++ cs) (types_of own.0.formals) env own.2.args flows.target);
          given_same = sym (reference p i wf inst flow.derivations l is_level s u t v state new_state alike new_alike top is_top there a.value (xs ++ a.vars) (inv.args ++ cs) own.1 env own.2.value (flows.value held));
        }

    -- changes over alike pairs of states lead to alike states
    alike_changes : (s u t v s' t' : Store) (as' : List GuardedChange) → IsState m s → IsState m u → IsState m t → IsState m v → Alike m l s t → Alike m l u v → CallFlows m s u inv f → CallFlows m t v inv f
        → ((a : GuardedChange) → Contains as' a → Contains (changes_in (effect_trees f.kind)) a) → Changes m s u inv as' s' → Changes m t v inv as' t' → Alike m l s' t'
    alike_changes s u t v s' t' as' state new_state state_t new_state_t alike new_alike flows flows_t among made made_t = record { same = at_place }
      where
        at_place : (g : ℕ) (x : List Value) → IsLow m l g x → look m.world m.functions s' g x ≡ look m.world m.functions t' g x
        at_place g x here = elim (hit m s u inv as' g x) [
          | inl c ↦
              let a = c.0 in
              let cs = c.1 in
              let there : IsTrue (is_below p.lattice (place_level m s u inv a cs) l) = subst (λ h. IsUnder m l h (target m s u inv a cs)) (sym c.3.0) (subst (IsUnder m l g) (sym c.3.1) here.below) in
              let k = carried s u t v state new_state alike new_alike a cs (among a c.2.of) c.2.bindings (flows.changes a cs (among a c.2.of) c.2.bindings) c.2.held there in
              let in_t : t' a.fun (target m t v inv a cs) ≡ Some (given m t v inv a cs) = made_t.named a cs (record { of = c.2.of; bindings = c.2.bindings; held = k.held }) in
              let one : t' a.fun (target m s u inv a cs) ≡ s' a.fun (target m s u inv a cs) = ap (t' a.fun) (sym k.target_same) ∙ in_t ∙ ap Some k.given_same ∙ sym (made.named a cs c.2) in
              same_entry p i wf s' t' g x here.place (subst (λ j. t' j x ≡ s' j x) c.3.0 (subst (λ y. t' a.fun y ≡ s' a.fun y) c.3.1 one))
          | inr n ↦
              let none_t : (a : GuardedChange) (cs : List Value) → IsTrueChange m t inv as' a cs → a.fun ≡ g → target m t v inv a cs ≡ x → ⊥ = λ a cs c e q.
              let there : IsTrue (is_below p.lattice (place_level m t v inv a cs) l) = subst (λ h. IsUnder m l h (target m t v inv a cs)) (sym e) (subst (IsUnder m l g) (sym q) here.below) in
              let k = carried t v s u state_t new_state_t (Alike-sym m l s t alike) (Alike-sym m l u v new_alike) a cs (among a c.of) c.bindings (flows_t.changes a cs (among a c.of) c.bindings) c.held there in
              n a cs (record { of = c.of; bindings = c.bindings; held = k.held }) e (k.target_same ∙ q) in
              sym (same_entry p i wf u s' g x here.place (made.others g x n)) ∙ new_alike.same g x here ∙ same_entry p i wf v t' g x here.place (made_t.others g x none_t)
        ]

    module _ (s t : Store) (state : IsState m s) (state_t : IsState m t) (alike : Alike m l s t) where
      module _ (plain : All (IsHeld m s inv.args) (denials f)) (plain_t : All (IsHeld m t inv.args) (denials f)) where
        -- the states before each rank are alike
        alike_stages : (k : ℕ) (u v : Store) → Stage m s inv (changes_in (effect_trees f.kind)) k u → Stage m t inv (changes_in (effect_trees f.kind)) k v → Alike m l u v
        alike_stages zero u v h g = subst (λ x. Alike m l x v) (sym h) (subst (Alike m l s) (sym g) alike)
        alike_stages (suc k) u v h g =
            let new_state = stage_typed p i wf inst inv f call s state k h.0 h.1 in
            let new_state_t = stage_typed p i wf inst inv f call t state_t k g.0 g.1 in
            alike_changes s h.0 t g.0 u v (of_rank all k) state new_state state_t new_state_t alike (alike_stages k h.0 g.0 h.1 g.1)
            (flow.calls s h.0 inv f state new_state call plain) (flow.calls t g.0 inv f state_t new_state_t call plain_t) (among_rank all k) h.2 g.2

        module _ (u v : Store) (new_state : IsState m u) (new_alike : Alike m l u v) where
          -- the one result has one value over both pairs
          result_same : (k : Kind) → f.kind ≡ k → (x y : Value) → IsResult m s u inv (results_in (effect_trees k)) x → IsResult m t v inv (results_in (effect_trees k)) y → y ≡ x
          result_same k q x y h g =
              let rs = results_in (effect_trees k) in
              let xs = types_of f.formals in
              let r = h.1 in
              let own_level = call_is_level p i wf inst inv f call in
              let of : Contains (results_in (effect_trees k)) r = slice_contains rs h.0 r h.2.there in
              let own = result_typed (signature p) xs inv.fun k (subst (IsKind (signature p) (types_of f.formals) inv.fun) q (wf.functions inv.fun f call.function).kind) r of in
              let reads : ResultFlows m s u inv r = (flow.calls s u inv f state new_state call plain).results r (subst (λ k. Contains (results_in (effect_trees k)) r) (sym q) of) in
              let each = All-weaker (IsCondition (signature p) (types_of f.formals)) (λ c. ReadsUnder m s s inv.args (call_level m inv) c → value_at m s inv.args c ≡ value_at m t inv.args c)
              (λ c own below. own_same p i wf inst inv f call flow.derivations l is_level s t state alike (call_level m inv) own_level low c own below) r.guards own.2.guards in
              let held = tests_carried m s t (call_level m inv) inv.args r.guards each reads.guards h.2.held in
              let same : h.0 ≡ g.0 = g.2.only h.0 r h.2.there held in
              let there : Some g.1 ≡ Some r = sym g.2.there ∙ ap (slice_get rs) (sym same) ∙ h.2.there in
              let one : g.1 ≡ r = cc in
              g.2.value ∙ ap (λ (r : GuardedResult). value_over m.world m.functions t v inv.args r.value) one
              ∙ sym (reference p i wf inst flow.derivations l is_level s u t v state new_state alike new_alike (call_level m inv) own_level low r.value xs inv.args own.0 (args_typed p i wf inst inv f call) own.2.value (reads.value h.2.held))
              ∙ sym h.2.value

          replies_same : (k : Kind) → f.kind ≡ k → (a b : Answer) → Replies m s u inv k a → Replies m t v inv k b → b ≡ a
          replies_same (kind.Primitive ty e) q a b h g = g ∙ ap answer.Value (sym (look_alike p i wf inst flow.derivations l is_level s t state alike inv.fun inv.args (record { read = (f, ty, record { function = call.function; type = ap read_type q; arguments = args_typed p i wf inst inv f call }); under = low }))) ∙ sym h
          replies_same (kind.Derived ty e) q a b h g = g ∙ ap answer.Value (sym (look_alike p i wf inst flow.derivations l is_level s t state alike inv.fun inv.args (record { read = (f, ty, record { function = call.function; type = ap read_type q; arguments = args_typed p i wf inst inv f call }); under = low }))) ∙ sym h
          replies_same (kind.Operation es) q a b h g = g ∙ sym h
          replies_same (kind.Both ty es) q a b h g = g.2 ∙ ap answer.Value (result_same (kind.Both ty es) q h.0 g.0 h.1 g.1) ∙ sym h.2

      alike_outcome : (s' t' : Store) (a b : Answer) → StepOf m s inv a s' f → StepOf m t inv b t' f → (b ≡ a) × Alike m l s' t'
      alike_outcome s' t' a b h g = by (first_exception m s inv f) refl h.outcome (subst (λ o. Outcome m t inv f o b t') (sym same) g.outcome)
        where
          same : first_exception m s inv f ≡ first_exception m t inv f
          same = exceptions_same p i wf inst flow inv f call l is_level low s t state alike

          by : (o : Option ℕ) → first_exception m s inv f ≡ o → Outcome m s inv f o a s' → Outcome m t inv f o b t' → (b ≡ a) × Alike m l s' t'
          by (Some n) e h g = (g.0 ∙ sym h.0, subst (λ x. Alike m l x t') (sym h.1) (subst (Alike m l s) (sym g.1) alike))
          by None e h g =
              let plain = denied m s inv f e in
              let plain_t = denied m t inv f (sym same ∙ e) in
              let new_state = stage_typed p i wf inst inv f call s state (rank_count all) s' h.0 in
              let new_alike = alike_stages plain plain_t (rank_count all) s' t' h.0 g.0 in
              (replies_same plain plain_t s' t' new_state new_alike f.kind refl a b h.1 g.1, new_alike)

  pub alike_step : (s t : Store) → IsState (machine_of p i) s → IsState (machine_of p i) t → Alike (machine_of p i) l s t → (inv : Invocation) → IsInvocation (machine_of p i) inv → is_seen (machine_of p i) l inv ≡ true
      → (a b : Answer) (s' t' : Store) → Step (machine_of p i) s inv a s' → Step (machine_of p i) t inv b t' → (b ≡ a) × Alike (machine_of p i) l s' t'
  alike_step s t state state_t alike inv call seen a b s' t' h g = alike_outcome inv call.0 call.1 seen s t state state_t alike s' t' a b (own_step m s s' inv a call.0 call.1 h) (own_step m t t' inv b call.0 call.1 g)
