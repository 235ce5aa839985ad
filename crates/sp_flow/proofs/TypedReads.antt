-- What a well-typed expression reads, it reads at values of the types of a V-function's formals. There levels are levels, so
-- what is at or below a level that is itself at or below another one is at or below that one too.
use Rattle.std.proofs.Common.{◌≡◌, sym, ap, subst, arith, ◌∙◌, ℕ, ◌<◌, true, ◌&&◌, List, [], ◌∷◌, ◌++◌, length, take, Some}
use Rattle.std.specs.Prelude.{IsTrue, slice_get}
use Rattle.std.proofs.Math.Seq.{take-length}
use Rattle.sp_values.specs.declared.value.Value.{Value}
use Rattle.sp_values.specs.declared.value.Ty.{Ty}
use Rattle.sp_values.specs.declared.value.Ty.TheVariants as ty
use Rattle.sp_values.specs.Domains.{are_values}
use Rattle.sp_lattice.specs.Order.{is_below}
use Rattle.sp_core.specs.declared.function.Function.{Function}
use Rattle.sp_core.specs.Instances.{Filling, IsInstance, machine_of, sizes_of, world_of}
use Rattle.sp_core.specs.Machine.{Machine, level_of, types_of}
use Rattle.sp_core.specs.Measures.{Anything}
use Rattle.sp_core.specs.Parts.{Parts, signature}
use Rattle.sp_core.specs.Reading.{DependOn, DependsOn}
use Rattle.sp_core.specs.Tree.{Tree, Trees, Const, Var, Not, Two, If, Param, Look, Every, New, none, more}
use Rattle.sp_core.specs.Typing.{HasType, HaveTypes, read_type}
use Rattle.sp_core.specs.Values.{Reads, values_of}
use Rattle.sp_core.specs.WellFormed.{IsWellFormed}
use Rattle.sp_core.proofs.Agree.{look_anywhere}
use Rattle.sp_core.proofs.Bindings.{are_values-append, length_values, proper_typed}
use Rattle.sp_core.proofs.Levels.{level_is}
use Rattle.sp_core.proofs.Types.{AreTypedReads, primitive_read, values_typed}
use Rattle.sp_flow.specs.Flows.{IsUnder}

-- a V-function is read at values of its formals' types
pub record IsReadOf (m : Machine) (g : ℕ) (v : List Value) (f : Function) (t : Ty) : Type 0 where
  pub function : slice_get m.functions g ≡ Some f
  pub type : read_type f.kind ≡ Some t
  pub arguments : IsTrue (are_values m.world.sizes (types_of f.formals) v)

abbrev pub IsRead : Machine → ℕ → List Value → Type 0
IsRead m g v = (f : Function) × (t : Ty) × IsReadOf m g v f t

-- and it is at or below l
pub record IsSeen (m : Machine) (l g : ℕ) (v : List Value) : Type 0 where
  pub read : IsRead m g v
  pub under : IsUnder m l g v

module _ (p : Parts) (i : Filling) (wf : IsWellFormed p) (inst : IsInstance p i) where
  -- what is known of all that an expression reads, and follows at values of the formals' types, is so known of it
  module _ (r n : Reads) (old_typed : AreTypedReads p i Anything r) (new_typed : AreTypedReads p i Anything n) (Sees Goal : ℕ → List Value → Type 0) (give : (g : ℕ) (v : List Value) → IsRead (machine_of p i) g v → Sees g v → Goal g v) where
    arguments : (ds : Trees) (xs : List Ty) (x : List Value) (ts : List Ty) → are_values (sizes_of p i) xs x ≡ true → HaveTypes (signature p) xs ds ts → are_values (sizes_of p i) ts (values_of (world_of p i) r n x ds) ≡ true
    arguments ds xs x ts a h = values_typed p i wf inst r n Anything Anything old_typed new_typed ds xs x ts a h (look_anywhere ds)

    mutual
      pub below_typed : (e : Tree) (xs : List Ty) (x : List Value) (t : Ty) → are_values (sizes_of p i) xs x ≡ true → HasType (signature p) xs e t → DependsOn (world_of p i) r n Sees x e → DependsOn (world_of p i) r n Goal x e
      below_typed (Const v) xs x t a h d = tt
      below_typed (Var k) xs x t a h d = tt
      below_typed (Not e) xs x t a h d = below_typed e xs x ty.Boolean a h.1 d
      below_typed (Two o e f) xs x t a h d = (below_typed e xs x h.0 a h.2 d.0, λ q. below_typed f xs x h.0 a h.3 (d.1 q))
      below_typed (If c e f) xs x t a h d = (below_typed c xs x ty.Boolean a h.0 d.0, λ q. below_typed e xs x t a h.1 (d.1 q), λ q. below_typed f xs x t a h.2 (d.2 q))
      below_typed (Param q ds) xs x t a h d = belows_typed ds xs x (types_of h.0.formals) a h.3 d
      below_typed (Look g ds) xs x t a h d = (
        belows_typed ds xs x (types_of h.0.formals) a h.3 d.0,
        give g (values_of (world_of p i) r n x ds) (h.0, t, record { function = h.1; type = h.2; arguments = arguments ds xs x (types_of h.0.formals) a h.3 }) d.1,
      )
      below_typed (Every k u b) xs x t a h d = λ c q.
          let long = length_values (sizes_of p i) xs x a in
          let own = h.1 in
          let num : k ≡ length x = omega (arith, own, long) in
          let all : take k x ≡ x = ap (λ j. take j x) num ∙ take-length x in
          let one : are_values (sizes_of p i) (u ∷ []) (c ∷ []) ≡ true = ap (λ b. b && true) (proper_typed (sizes_of p i) u c q) in
          let env : are_values (sizes_of p i) (xs ++ u ∷ []) (take k x ++ c ∷ []) ≡ true = subst (λ y. are_values (sizes_of p i) (xs ++ u ∷ []) (y ++ c ∷ []) ≡ true) (sym all) (are_values-append (sizes_of p i) xs (u ∷ []) x (c ∷ []) a one) in
          below_typed b (xs ++ u ∷ []) (take k x ++ c ∷ []) ty.Boolean env h.3 (d c q)
      below_typed (New g ds) xs x t a h d = (
        belows_typed ds xs x (types_of h.0.formals) a h.3 d.0,
        give g (values_of (world_of p i) r n x ds) (h.0, t, record { function = h.1; type = primitive_read h.0.kind t h.2; arguments = arguments ds xs x (types_of h.0.formals) a h.3 }) d.1,
      )

      pub belows_typed : (ds : Trees) (xs : List Ty) (x : List Value) (ts : List Ty) → are_values (sizes_of p i) xs x ≡ true → HaveTypes (signature p) xs ds ts → DependOn (world_of p i) r n Sees x ds → DependOn (world_of p i) r n Goal x ds
      belows_typed none xs x [] a h d = tt
      belows_typed none xs x (t ∷ ts) a h d = absurd h
      belows_typed (more e ds) xs x [] a h d = absurd h
      belows_typed (more e ds) xs x (t ∷ ts) a h d = (below_typed e xs x t a h.0 d.0, belows_typed ds xs x ts a h.1 d.1)

  -- what is at or below a level at or below l is at or below l
  pub still_seen : (l : ℕ) → l < p.lattice.count → (top : ℕ) → top < p.lattice.count → IsTrue (is_below p.lattice top l) → (g : ℕ) (v : List Value) → IsRead (machine_of p i) g v → IsUnder (machine_of p i) top g v → IsSeen (machine_of p i) l g v
  still_seen l is_level top is_top low g v read under = record {
    read = read;
    under = wf.lattice.partial.transitive (level_of (machine_of p i) g v) top l (level_is p i wf inst g read.0 v read.2.function read.2.arguments) is_top is_level under low;
  }
