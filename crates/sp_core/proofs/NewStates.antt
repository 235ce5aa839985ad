-- The state after the changes of all ranks is what the changes say of a new state, and there is no other such state.
use Rattle.std.proofs.Common.{◌≡◌, refl, sym, ◌∙◌, ap, subst, arith, ℕ, zero, suc, ◌<◌, ◌≤◌, Bool, true, false, ◌==◌, List, [], ◌∷◌, ◌++◌, Some, nat_lt, inl, inr}
use Rattle.std.specs.Prelude.{if◌then◌else◌, slice_get, ◌↔◌}
use Rattle.std.specs.List.{Contains}
use mathlib.Core.Path.{fun_ext}
use Rattle.std.proofs.lemmas.Bool.Decides.{Decides-eqb, Decides-ltb}
use Rattle.std.proofs.lemmas.List.Elements.{Contains-append_cases, Contains-append_left, Contains-append_right}
use Rattle.sp_values.specs.declared.value.Value.{Value}
use Rattle.sp_values.specs.declared.value.Ty.{Ty}
use Rattle.sp_values.specs.declared.place.Invocation.{Invocation}
use Rattle.sp_core.specs.declared.function.Function.{Function}
use Rattle.sp_core.specs.declared.function.Kind.{Kind}
use Rattle.sp_core.specs.declared.function.Kind.TheVariants as kind
use Rattle.sp_core.specs.Effects.{GuardedChange, changes_in, effect_trees}
use Rattle.sp_core.specs.Instances.{Filling, machine_of, world_of}
use Rattle.sp_core.specs.Machine.{Changes, ChangesByRank, IsNewState, IsTrueChange, Machine, Stage, given, target, types_of}
use Rattle.sp_core.specs.Parts.{Parts, signature}
use Rattle.sp_core.specs.Ranks.{HasNoCycle, IsBefore, change_rank, change_reads, new_reads, new_reads_in, of_rank, rank_count}
use Rattle.sp_core.specs.Tree.{Tree, Trees, Const, Var, Not, Two, If, Param, Look, Every, New, none, more}
use Rattle.sp_core.specs.Typing.{HasType, HaveTypes, Signature, primitive_type}
use Rattle.sp_core.specs.Values.{Store, look}
use Rattle.sp_core.specs.WellFormed.{IsKind, IsWellFormed}
use Rattle.sp_core.proofs.Agree.{value_agrees_new, values_agree_new}
use Rattle.sp_core.proofs.EffectsTyped.{change_typed, initial_of}
use Rattle.sp_core.proofs.Elements.{Contains-cons, Contains-nil}
use Rattle.sp_core.proofs.Levels.{same_primitive}
use Rattle.sp_core.proofs.RankLemmas.{all_among, among_rank, has_rank, in_rank, lower_rank, rank_within, reads_among}

-- Stages and the new state

-- The value and the target of a change are decided by the entries of the functions before its own.
abbrev pub AreDecided : Machine → Store → Invocation → List GuardedChange → Type 0
AreDecided m s i as' =
    (u t : Store) (a : GuardedChange) → Contains as' a → ((h : ℕ) (v : List Value) → IsBefore as' h a.fun → u h v ≡ t h v) → (cs : List Value) →
    (target m s u i a cs ≡ target m s t i a cs) × (given m s u i a cs ≡ given m s t i a cs)

module _ (m : Machine) (s : Store) (i : Invocation) (as' : List GuardedChange) (no_cycle : HasNoCycle as') (decided : AreDecided m s i as') where
  abbrev rank : ℕ → ℕ
  rank g = change_rank as' g

  -- a true change of a rank is a true change, and the other way round
  of_all : (k : ℕ) (a : GuardedChange) (cs : List Value) → IsTrueChange m s i (of_rank as' k) a cs → IsTrueChange m s i as' a cs
  of_all k a cs c = record { of = among_rank as' k a c.of; bindings = c.bindings; held = c.held }

  of_own : (a : GuardedChange) (cs : List Value) → IsTrueChange m s i as' a cs → IsTrueChange m s i (of_rank as' (change_rank as' a.fun)) a cs
  of_own a cs c = record { of = in_rank as' a c.of; bindings = c.bindings; held = c.held }

  -- a function of another rank keeps its entries
  other_rank : (k : ℕ) (u t : Store) → Changes m s u i (of_rank as' k) t → (g : ℕ) (v : List Value) → (change_rank as' g ≡ k → ⊥) → t g v ≡ u g v
  other_rank k u t made g v n = made.others g v (λ a cs c e q. n (ap (change_rank as') (sym e) ∙ has_rank as' k a c.of))

  -- before its own rank a function has the entries of the old state
  unmade : (k : ℕ) (u : Store) → Stage m s i as' k u → (g : ℕ) (v : List Value) → k ≤ change_rank as' g → u g v ≡ s g v
  unmade zero u h g v l = ap (λ x. x g v) h
  unmade (suc k) u h g v l = other_rank k h.0 u h.2 g v (λ e. absurd (omega (arith, l, e))) ∙ unmade k h.0 h.1 g v (omega (arith, l))

  -- the state before rank k, where it is known what is made later
  pub record IsBeforeRank (k : ℕ) (t u : Store) : Type 0 where
    pub stage : Stage m s i as' k u
    pub made : (g : ℕ) (v : List Value) → change_rank as' g < k → u g v ≡ t g v

  before_rank : (n k : ℕ) (t : Store) → k ≤ n → Stage m s i as' n t → (u : Store) × IsBeforeRank k t u
  before_rank zero k t l h =
      let e : k ≡ 0 = omega (arith, l) in
      (s, record { stage = subst (λ j. Stage m s i as' j s) (sym e) refl; made = λ g v r. absurd (omega (arith, r, e)) })
  before_rank (suc n) k t l h = by (k == suc n) refl (λ less. before_rank n k h.0 less h.1)
    where
      by : (q : Bool) → (k == suc n) ≡ q → (k ≤ n → (u : Store) × IsBeforeRank k h.0 u) → (u : Store) × IsBeforeRank k t u
      by true q lower = (t, record { stage = subst (λ j. Stage m s i as' j t) (sym ((Decides-eqb k (suc n)).0 q)) h; made = λ g v r. refl })
      by false q lower =
          let less : k ≤ n = grind (arith, l, q) in
          let b = lower less in
          (b.0, record { stage = b.1.stage; made = λ g v r. b.1.made g v r ∙ sym (other_rank n h.0 t h.2 g v (λ e. absurd (omega (arith, r, e, less)))) })

  module _ (t : Store) (all : ChangesByRank m s i as' t) where
    -- the states around a rank
    pub record IsAround (k : ℕ) (u v : Store) : Type 0 where
      pub before : Stage m s i as' k u
      pub made : Changes m s u i (of_rank as' k) v
      pub lower : (g : ℕ) (x : List Value) → change_rank as' g < k → u g x ≡ t g x
      pub own : (g : ℕ) (x : List Value) → change_rank as' g < suc k → v g x ≡ t g x

    around : (k : ℕ) → k < rank_count as' → (u : Store) × (v : Store) × IsAround k u v
    around k l = by (before_rank (rank_count as') (suc k) t (omega (arith, l)) all)
      where
        by : (v : Store) × IsBeforeRank (suc k) t v → (u : Store) × (v : Store) × IsAround k u v
        by (v, b) =
            let h = b.stage in (
              h.0,
              v,
              record {
                before = h.1;
                made = h.2;
                lower = λ g x r. sym (other_rank k h.0 v h.2 g x (λ e. absurd (omega (arith, r, e)))) ∙ b.made g x (omega (arith, r));
                own = b.made;
              },
            )

    -- over the state before its rank a change names and gives what it does over the new state
    settled : (k : ℕ) (u v : Store) → IsAround k u v → (a : GuardedChange) → Contains as' a → change_rank as' a.fun ≡ k → (cs : List Value) → (target m s u i a cs ≡ target m s t i a cs) × (given m s u i a cs ≡ given m s t i a cs)
    settled k u v here a of e cs = decided u t a of (λ h x b. here.lower h x (let l = lower_rank as' no_cycle h a.fun b in omega (arith, l, e))) cs

    pub is_new_state : IsNewState m s i as' t
    is_new_state = record {
      named = λ a cs c.
          let k = change_rank as' a.fun in
          let r = around k (rank_within as' a c.of) in
          let same = settled k r.0 r.1 r.2 a c.of refl cs in
          sym (r.2.own a.fun (target m s t i a cs) (omega arith)) ∙ ap (r.1 a.fun) (sym same.0) ∙ r.2.made.named a cs (of_own a cs c) ∙ ap Some same.1;
      others = λ g v n. by g v n (nat_lt (change_rank as' g) (rank_count as')) refl;
    }
      where
        by : (g : ℕ) (v : List Value) → ((a : GuardedChange) (cs : List Value) → IsTrueChange m s i as' a cs → a.fun ≡ g → target m s t i a cs ≡ v → ⊥) → (q : Bool) → nat_lt (change_rank as' g) (rank_count as') ≡ q → t g v ≡ s g v
        by g v n true q =
            let k = change_rank as' g in
            let r = around k ((Decides-ltb k (rank_count as')).0 q) in
            sym (r.2.own g v (omega arith))
            ∙ r.2.made.others g v (λ a cs c e p. n a cs (of_all k a cs c) e (sym (settled k r.0 r.1 r.2 a (among_rank as' k a c.of) (has_rank as' k a c.of) cs).0 ∙ p))
            ∙ unmade k r.0 r.2.before g v (omega arith)
        by g v n false q = unmade (rank_count as') t all g v (grind (arith, q))

  -- the other way round: the state in which the functions of rank below k are as in the new state
  module _ (t : Store) (new : IsNewState m s i as' t) where
    abbrev up_to : ℕ → Store
    up_to k g v = if nat_lt (change_rank as' g) k then t g v else s g v

    is_made : (k g : ℕ) (v : List Value) → change_rank as' g < k → up_to k g v ≡ t g v
    is_made k g v l = ap (λ b. if b then t g v else s g v) ((Decides-ltb (change_rank as' g) k).1 l)

    not_made : (k g : ℕ) (v : List Value) → (change_rank as' g < k → ⊥) → up_to k g v ≡ s g v
    not_made k g v n = by (nat_lt (change_rank as' g) k) refl
      where
        by : (b : Bool) → nat_lt (change_rank as' g) k ≡ b → (if b then t g v else s g v) ≡ s g v
        by true q = absurd (n ((Decides-ltb (change_rank as' g) k).0 q))
        by false q = refl

    named_there : (k : ℕ) (a : GuardedChange) (cs : List Value) → IsTrueChange m s i (of_rank as' k) a cs → (target m s (up_to k) i a cs ≡ target m s t i a cs) × (given m s (up_to k) i a cs ≡ given m s t i a cs)
    named_there k a cs c =
        let of = among_rank as' k a c.of in
        let e = has_rank as' k a c.of in
        decided (up_to k) t a of (λ h x b. is_made k h x (let l = lower_rank as' no_cycle h a.fun b in omega (arith, l, e))) cs

    made_of_rank : (k : ℕ) → Changes m s (up_to k) i (of_rank as' k) (up_to (suc k))
    made_of_rank k = record {
      named = λ a cs c.
          let e = has_rank as' k a c.of in
          let same = named_there k a cs c in
          is_made (suc k) a.fun (target m s (up_to k) i a cs) (omega (arith, e)) ∙ ap (t a.fun) same.0 ∙ new.named a cs (of_all k a cs c) ∙ ap Some (sym same.1);
      others = λ g v n. by g v n (nat_lt (change_rank as' g) k) refl (change_rank as' g == k) refl;
    }
      where
        by : (g : ℕ) (v : List Value) → ((a : GuardedChange) (cs : List Value) → IsTrueChange m s i (of_rank as' k) a cs → a.fun ≡ g → target m s (up_to k) i a cs ≡ v → ⊥)
            → (q : Bool) → nat_lt (change_rank as' g) k ≡ q → (r : Bool) → (change_rank as' g == k) ≡ r → up_to (suc k) g v ≡ up_to k g v
        by g v n true q r o =
            let l = (Decides-ltb (change_rank as' g) k).0 q in
            is_made (suc k) g v (omega (arith, l)) ∙ sym (is_made k g v l)
        by g v n false q true o =
            let e = (Decides-eqb (change_rank as' g) k).0 o in
            is_made (suc k) g v (omega (arith, e))
            ∙ new.others g v (λ a cs c f p.
            let own : IsTrueChange m s i (of_rank as' k) a cs = subst (λ j. IsTrueChange m s i (of_rank as' j) a cs) (ap (change_rank as') f ∙ e) (of_own a cs c) in
            n a cs own f ((named_there k a cs own).0 ∙ p))
            ∙ sym (not_made k g v (λ l. absurd (omega (arith, l, e))))
        by g v n false q false o = not_made (suc k) g v (λ l. absurd (grind (arith, l, q, o))) ∙ sym (not_made k g v (λ l. absurd (grind (arith, l, q))))

    stage_up_to : (k : ℕ) → Stage m s i as' k (up_to k)
    stage_up_to zero = fun_ext (λ g. fun_ext (λ v. not_made 0 g v (λ l. absurd (omega (arith, l)))))
    stage_up_to (suc k) = (up_to k, stage_up_to k, made_of_rank k)

    last : up_to (rank_count as') ≡ t
    last = fun_ext (λ g. fun_ext (λ v. by g v (nat_lt (change_rank as' g) (rank_count as')) refl))
      where
        by : (g : ℕ) (v : List Value) → (q : Bool) → nat_lt (change_rank as' g) (rank_count as') ≡ q → up_to (rank_count as') g v ≡ t g v
        by g v true q = is_made (rank_count as') g v ((Decides-ltb (change_rank as' g) (rank_count as')).0 q)
        by g v false q =
            not_made (rank_count as') g v (λ l. absurd (grind (arith, l, q)))
            ∙ sym (new.others g v (λ a cs c e p. let l = rank_within as' a c.of in let same : change_rank as' a.fun ≡ change_rank as' g = ap (change_rank as') e in absurd (grind (arith, l, q, same))))

    pub changed_by_rank : ChangesByRank m s i as' t
    changed_by_rank = subst (Stage m s i as' (rank_count as')) last (stage_up_to (rank_count as'))

-- The changes of a well-formed function

-- a function whose new value a well-typed expression reads is primitive
abbrev IsPrimitive : Signature → ℕ → Type 0
IsPrimitive sg h = (f : Function) × (t : Ty) × (slice_get sg.functions h ≡ Some f) × (primitive_type f.kind ≡ Some t)

mutual
  primitive_reads : (sg : Signature) (xs : List Ty) (e : Tree) (t : Ty) → HasType sg xs e t → (h : ℕ) → Contains (new_reads e) h → IsPrimitive sg h
  primitive_reads sg xs (Const v) t typed h c = absurd (Contains-nil h c)
  primitive_reads sg xs (Var k) t typed h c = absurd (Contains-nil h c)
  primitive_reads sg xs (Not a) t typed h c = primitive_reads sg xs a _ typed.1 h c
  primitive_reads sg xs (Two o a b) t typed h c = elim (Contains-append_cases (new_reads a) (new_reads b) h c) [
    | inl k ↦ primitive_reads sg xs a typed.0 typed.2 h k
    | inr k ↦ primitive_reads sg xs b typed.0 typed.3 h k
  ]
  primitive_reads sg xs (If d a b) t typed h c = elim (Contains-append_cases (new_reads d) (new_reads a ++ new_reads b) h c) [
    | inl k ↦ primitive_reads sg xs d _ typed.0 h k
    | inr r ↦ elim (Contains-append_cases (new_reads a) (new_reads b) h r) [
      | inl k ↦ primitive_reads sg xs a t typed.1 h k
      | inr k ↦ primitive_reads sg xs b t typed.2 h k
    ]
  ]
  primitive_reads sg xs (Param q ds) t typed h c = all_primitive_reads sg xs ds _ typed.3 h c
  primitive_reads sg xs (Look g ds) t typed h c = all_primitive_reads sg xs ds _ typed.3 h c
  primitive_reads sg xs (Every k u b) t typed h c = primitive_reads sg (xs ++ u ∷ []) b _ typed.3 h c
  primitive_reads sg xs (New g ds) t typed h c = elim (Contains-append_cases (new_reads_in ds) (g ∷ []) h c) [
    | inl k ↦ all_primitive_reads sg xs ds _ typed.3 h k
    | inr r ↦ elim (Contains-cons g [] h r) [
      | inl e ↦ subst (IsPrimitive sg) e (typed.0, t, typed.1, typed.2)
      | inr k ↦ absurd (Contains-nil h k)
    ]
  ]

  all_primitive_reads : (sg : Signature) (xs : List Ty) (ds : Trees) (ts : List Ty) → HaveTypes sg xs ds ts → (h : ℕ) → Contains (new_reads_in ds) h → IsPrimitive sg h
  all_primitive_reads sg xs none ts typed h c = absurd (Contains-nil h c)
  all_primitive_reads sg xs (more d ds) [] typed h c = absurd typed
  all_primitive_reads sg xs (more d ds) (t ∷ ts) typed h c = elim (Contains-append_cases (new_reads d) (new_reads_in ds) h c) [
    | inl k ↦ primitive_reads sg xs d t typed.0 h k
    | inr k ↦ all_primitive_reads sg xs ds ts typed.1 h k
  ]

-- a function's changes have no cycle
own_no_cycle : (sg : Signature) (xs : List Ty) (g : ℕ) (k : Kind) → IsKind sg xs g k → HasNoCycle (changes_in (effect_trees k))
own_no_cycle sg xs g (kind.Primitive t e) h = λ n f c. absurd (Contains-nil c.2.0 c.2.1.of)
own_no_cycle sg xs g (kind.Derived t e) h = λ n f c. absurd (Contains-nil c.2.0 c.2.1.of)
own_no_cycle sg xs g (kind.Operation es) h = h.effects.no_cycle
own_no_cycle sg xs g (kind.Both t es) h = h.effects.no_cycle

module _ (p : Parts) (i : Filling) (wf : IsWellFormed p) (g : ℕ) (f : Function) (there : slice_get p.functions g ≡ Some f) (s : Store) (inv : Invocation) where
  abbrev all : List GuardedChange
  all = changes_in (effect_trees f.kind)

  own_decided : AreDecided (machine_of p i) s inv (changes_in (effect_trees f.kind))
  own_decided u t a of agree cs =
      let typed = change_typed (signature p) (types_of f.formals) g f.kind (wf.functions g f there).kind a of in
      let w = world_of p i in
      let old = look w p.functions s in
      let fs = p.functions in
      let Read : ℕ → Type 0 = λ h. IsBefore all h a.fun × IsPrimitive (signature p) h in
      let one : (h : ℕ) → Contains (change_reads a) h → IsPrimitive (signature p) h → IsBefore all h a.fun × IsPrimitive (signature p) h = λ h c primitive. ((a, record { of = of; changes = refl; reads = c }), primitive) in
      let same : (h : ℕ) (v : List Value) → IsBefore all h a.fun × IsPrimitive (signature p) h → look w fs u h v ≡ look w fs t h v = λ h v r.
      let init = initial_of r.1.0.kind r.1.1 r.1.3 in
      same_primitive p i wf u t h v r.1.0 r.1.1 init.0 r.1.2 init.1 (sym (agree h v r.0)) in (
        values_agree_new w old (look w fs u) (look w fs t) Read same a.args (inv.args ++ cs)
            (all_among Read a.args (λ h c. one h (Contains-append_left (new_reads_in a.args) (new_reads a.value) h c) (all_primitive_reads (signature p) (types_of f.formals ++ a.vars) a.args _ typed.2.args h c))),
        value_agrees_new w old (look w fs u) (look w fs t) Read same a.value (inv.args ++ cs)
            (reads_among Read a.value (λ h c. one h (Contains-append_right (new_reads_in a.args) (new_reads a.value) h c) (primitive_reads (signature p) (types_of f.formals ++ a.vars) a.value _ typed.2.value h c))),
      )

  -- by ranks, or at once
  pub new_state : (t : Store) → ChangesByRank (machine_of p i) s inv (changes_in (effect_trees f.kind)) t ↔ IsNewState (machine_of p i) s inv (changes_in (effect_trees f.kind)) t
  new_state t =
      let free = own_no_cycle (signature p) (types_of f.formals) g f.kind (wf.functions g f there).kind in (
        is_new_state (machine_of p i) s inv all free own_decided t,
        changed_by_rank (machine_of p i) s inv all free own_decided t,
      )
