-- The levels of functions, and what a state gives at a function by its kind.
use Rattle.std.proofs.Common.{◌≡◌, sym, ◌∙◌, ap, subst, ℕ, ◌<◌, true, List, Some}
use Rattle.std.specs.Prelude.{slice_get, unwrap_or}
use Rattle.sp_values.specs.declared.value.Value.{Value}
use Rattle.sp_values.specs.declared.value.Ty.{Ty}
use Rattle.sp_values.specs.declared.value.Ty.TheVariants as ty
use Rattle.sp_values.specs.Domains.{are_values, is_value}
use Rattle.sp_core.specs.declared.expr.Expr.{Expr}
use Rattle.sp_core.specs.declared.function.Function.{Function}
use Rattle.sp_core.specs.declared.function.Kind.{Kind}
use Rattle.sp_core.specs.declared.function.Kind.TheVariants as kind
use Rattle.sp_core.specs.Instances.{Filling, IsInstance, machine_of, sizes_of, world_of}
use Rattle.sp_core.specs.Machine.{IsPlace, IsState, Machine, initial_state, level_by, level_of, types_of}
use Rattle.sp_core.specs.Measures.{Nothing}
use Rattle.sp_core.specs.Parts.{Parts}
use Rattle.sp_core.specs.Tree.{tree}
use Rattle.sp_core.specs.Values.{Store, look, nothing, reads_by, value_of}
use Rattle.sp_core.specs.WellFormed.{IsWellFormed}
use Rattle.sp_core.proofs.Agree.{value_agrees}
use Rattle.sp_core.proofs.Looks.{look_is}
use Rattle.sp_core.proofs.Types.{level_below, ordered_functions, typed}

-- the initial state is a state
pub initial_typed : (m : Machine) → IsState m initial_state
initial_typed m = record { entries = λ g v x e. cc }

module _ (p : Parts) (i : Filling) (wf : IsWellFormed p) where
  -- what a state gives at a function, by its kind
  pub gives : (u : Store) (g : ℕ) (f : Function) (v : List Value) → slice_get p.functions g ≡ Some f → (k : Kind) → f.kind ≡ k
      → look (world_of p i) p.functions u g v ≡ reads_by (world_of p i) u (look (world_of p i) p.functions u) (Some (record f { kind = k })) g v
  gives u g f v there k e =
      subst (λ k. look (world_of p i) p.functions u g v ≡ reads_by (world_of p i) u (look (world_of p i) p.functions u) (Some (record f { kind = k })) g v) e
      (look_is (world_of p i) p.functions (ordered_functions p wf) u g v ∙ ap (λ o. reads_by (world_of p i) u (look (world_of p i) p.functions u) o g v) there)

  -- a primitive function gives the same where its entry is the same
  pub same_primitive : (s t : Store) (g : ℕ) (v : List Value) (f : Function) (u : Ty) (init : Expr) → slice_get p.functions g ≡ Some f → f.kind ≡ kind.Primitive u init → t g v ≡ s g v
      → look (world_of p i) p.functions s g v ≡ look (world_of p i) p.functions t g v
  same_primitive s t g v f u init there primitive e =
      gives s g f v there (kind.Primitive u init) primitive
      ∙ ap (λ o. unwrap_or o (value_of (world_of p i) nothing nothing v (tree init))) (sym e)
      ∙ sym (gives t g f v there (kind.Primitive u init) primitive)

  -- a place looks the same where its entry is the same
  pub same_entry : (s t : Store) (g : ℕ) (v : List Value) → IsPlace (machine_of p i) g v → t g v ≡ s g v → look (world_of p i) p.functions s g v ≡ look (world_of p i) p.functions t g v
  same_entry s t g v h e = same_primitive s t g v h.0 h.1 h.2 h.3.function h.3.primitive e

  -- the level of a function at values of its formals' types is a level
  pub level_is : IsInstance p i → (g : ℕ) (f : Function) (v : List Value) → slice_get p.functions g ≡ Some f → are_values (sizes_of p i) (types_of f.formals) v ≡ true → level_of (machine_of p i) g v < p.lattice.count
  level_is inst g f v there args =
      let own = (wf.functions g f there).level in
      let w = world_of p i in
      let r = look w p.functions initial_state in
      let empty = initial_typed (machine_of p i) in
      let value = typed p i wf inst initial_state initial_state empty empty (types_of f.formals) v (tree f.level) ty.Level args own.expression.typed in
      let same = value_agrees w nothing nothing r r Nothing (λ g v n. absurd n) (tree f.level) v own.reads_nothing in
      subst (λ n. n < p.lattice.count) (sym (ap (λ o. level_by w o v) there))
      (level_below (sizes_of p i) (value_of w nothing nothing v (tree f.level)) (subst (λ y. is_value (sizes_of p i) ty.Level y ≡ true) (sym same) value))
