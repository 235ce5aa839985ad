-- What is known of an invocation: its level and those of the places that it changes are levels, and its conditions have one
-- value in states that are alike where they read.
use Rattle.std.proofs.Common.{◌≡◌, refl, sym, ◌∙◌, ap, subst, ℕ, ◌<◌, true, false, List, [], ◌∷◌, ◌++◌, append_assoc}
use Rattle.std.specs.Prelude.{IsTrue}
use Rattle.std.specs.List.{All, Contains}
use Rattle.std.proofs.lemmas.List.Elements.{All-cons, All-nil, All-head, All-tail}
use Rattle.sp_values.specs.declared.value.Value.{Value}
use Rattle.sp_values.specs.declared.value.Ty.{Ty}
use Rattle.sp_values.specs.declared.value.Ty.TheVariants as ty
use Rattle.sp_values.specs.declared.place.Invocation.{Invocation}
use Rattle.sp_lattice.specs.Order.{is_below}
use Rattle.sp_core.specs.declared.function.Function.{Function}
use Rattle.sp_core.specs.Effects.{GuardedChange, changes_in, effect_trees}
use Rattle.sp_core.specs.Instances.{Filling, IsInstance, machine_of, sizes_of, world_of}
use Rattle.sp_core.specs.Laws.{IsCondition, IsGuard}
use Rattle.sp_core.specs.Machine.{AreBindings, IsHeld, IsInvocationOf, IsState, Machine, target, types_of, value_at}
use Rattle.sp_core.specs.Parts.{Parts, signature}
use Rattle.sp_core.specs.Security.{Alike, is_seen}
use Rattle.sp_core.specs.Tree.{Tree}
use Rattle.sp_core.specs.Values.{Store, World, is_true, look}
use Rattle.sp_core.specs.WellFormed.{IsWellFormed}
use Rattle.sp_core.proofs.Bindings.{length_values}
use Rattle.sp_core.proofs.Fronts.{below_front, value_front}
use Rattle.sp_core.proofs.Levels.{level_is}
use Rattle.sp_core.proofs.StatesTyped.{args_typed, change_entry, environment}
use Rattle.sp_flow.specs.Flows.{DerivationsFlow, IsUnder, ReadsUnder, TestsUnder, call_level, place_level}
use Rattle.sp_flow.proofs.Reference.{reference}

-- an invocation that isn't seen at l isn't at or below l
pub not_under : (m : Machine) (l : ℕ) (inv : Invocation) → is_seen m l inv ≡ false → IsUnder m l inv.fun inv.args → ⊥
not_under m l inv e h = let no : true ≡ false = sym h ∙ e in cc

-- conditions that are tried in order are TRUE in state t where they are in s, if each that is tried has one value in both
pub tests_carried : (m : Machine) (s t : Store) (top : ℕ) (x : List Value) (cs : List Tree) → All (λ c. ReadsUnder m s s x top c → value_at m s x c ≡ value_at m t x c) cs → TestsUnder m s x top cs → All (IsHeld m s x) cs → All (IsHeld m t x) cs
tests_carried m s t top x [] one tests held = All-nil (IsHeld m t x)
tests_carried m s t top x (c ∷ cs) one tests held =
    let own = All-head (IsHeld m s x) c cs held in
    All-cons (IsHeld m t x) c cs (ap is_true (sym (All-head (λ c. ReadsUnder m s s x top c → value_at m s x c ≡ value_at m t x c) c cs one tests.0)) ∙ own)
    (tests_carried m s t top x cs (All-tail (λ c. ReadsUnder m s s x top c → value_at m s x c ≡ value_at m t x c) c cs one) (tests.1 own) (All-tail (IsHeld m s x) c cs held))

-- values for some variables begin with values for the first of them
record ArePartsOf (w : World) (vs : List Ty) (cs front rest : List Value) : Type 0 where
  whole : cs ≡ front ++ rest
  first : AreBindings w vs front

parts_of : (w : World) (vs ws : List Ty) (cs : List Value) → AreBindings w (vs ++ ws) cs → (front : List Value) × (rest : List Value) × ArePartsOf w vs cs front rest
parts_of w [] ws cs h = ([], cs, record { whole = refl; first = tt })
parts_of w (v ∷ vs) ws [] h = absurd h
parts_of w (v ∷ vs) ws (c ∷ cs) h = let r = parts_of w vs ws cs h.1 in (c ∷ r.0, r.1, record { whole = ap (λ ys. c ∷ ys) r.2.whole; first = (h.0, r.2.first) })

module _ (p : Parts) (i : Filling) (wf : IsWellFormed p) (inst : IsInstance p i) (inv : Invocation) (f : Function) (call : IsInvocationOf (machine_of p i) inv f) where
  pub call_is_level : call_level (machine_of p i) inv < p.lattice.count
  call_is_level = level_is p i wf inst inv.fun f inv.args call.function (args_typed p i wf inst inv f call)

  pub place_is_level : (s u : Store) → IsState (machine_of p i) s → IsState (machine_of p i) u → (a : GuardedChange) (cs : List Value) → Contains (changes_in (effect_trees f.kind)) a → AreBindings (world_of p i) a.vars cs → place_level (machine_of p i) s u inv a cs < p.lattice.count
  place_is_level s u state new_state a cs of bound =
      let e = change_entry p i wf inst inv f call s u state new_state a cs of bound in
      level_is p i wf inst a.fun e.0 (target (machine_of p i) s u inv a cs) e.3.function e.3.arguments

  module _ (flows : DerivationsFlow (machine_of p i)) (l : ℕ) (is_level : l < p.lattice.count) (s t : Store) (state : IsState (machine_of p i) s) (alike : Alike (machine_of p i) l s t) (top : ℕ) (is_top : top < p.lattice.count) (low : IsTrue (is_below p.lattice top l)) where
    -- a condition over some variables has one value in alike states, whatever stands behind them
    condition_same : (vs : List Ty) (front rest : List Value) → AreBindings (world_of p i) vs front → (c : Tree) → IsCondition (signature p) (types_of f.formals ++ vs) c
        → ReadsUnder (machine_of p i) s s ((inv.args ++ front) ++ rest) top c → value_at (machine_of p i) s ((inv.args ++ front) ++ rest) c ≡ value_at (machine_of p i) t ((inv.args ++ front) ++ rest) c
    condition_same vs front rest bound c own reads =
        let m = machine_of p i in
        let y = inv.args ++ front in
        let ts = types_of f.formals ++ vs in
        let env = environment p i wf inst inv f call vs front bound in
        let long = length_values (sizes_of p i) ts y env in
        let old = look m.world m.functions s in
        let other = look m.world m.functions t in
        value_front m.world old old (signature p) ts y rest long c ty.Boolean own.typed
        ∙ reference p i wf inst flows l is_level s s t t state state alike alike top is_top low c ts y ty.Boolean env own.typed (below_front m.world old old (signature p) ts y rest long (IsUnder m top) c ty.Boolean own.typed reads)
        ∙ sym (value_front m.world other other (signature p) ts y rest long c ty.Boolean own.typed)

    -- so have the guards of a change
    pub guard_same : (vars : List Ty) (cs : List Value) → AreBindings (world_of p i) vars cs → (c : Tree) → IsGuard (signature p) (types_of f.formals) vars c
        → ReadsUnder (machine_of p i) s s (inv.args ++ cs) top c → value_at (machine_of p i) s (inv.args ++ cs) c ≡ value_at (machine_of p i) t (inv.args ++ cs) c
    guard_same vars cs bound c guard reads =
        let m = machine_of p i in
        let parts = parts_of m.world guard.0 guard.1 cs (subst (λ ts. AreBindings m.world ts cs) guard.2.parts bound) in
        let z : inv.args ++ cs ≡ (inv.args ++ parts.0) ++ parts.1 = ap (λ ys. inv.args ++ ys) parts.2.whole ∙ sym (append_assoc inv.args parts.0 parts.1) in
        ap (λ x. value_at m s x c) z
        ∙ condition_same guard.0 parts.0 parts.1 parts.2.first c guard.2.condition (subst (λ x. ReadsUnder m s s x top c) z reads)
        ∙ sym (ap (λ x. value_at m t x c) z)

    -- and conditions over the formals alone
    pub own_same : (c : Tree) → IsCondition (signature p) (types_of f.formals) c → ReadsUnder (machine_of p i) s s inv.args top c → value_at (machine_of p i) s inv.args c ≡ value_at (machine_of p i) t inv.args c
    own_same c own reads = reference p i wf inst flows l is_level s s t t state state alike alike top is_top low c (types_of f.formals) inv.args ty.Boolean (args_typed p i wf inst inv f call) own.typed reads
