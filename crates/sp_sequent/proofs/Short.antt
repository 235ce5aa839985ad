-- Well-typed expressions over few variables have room for their numbers: variables have short numbers, and nothing has over
-- eight arguments.
use Rattle.std.proofs.Common.{◌≡◌, refl, ap, subst, arith, ℕ, suc, ◌<◌, ◌≤◌, List, [], ◌∷◌, length, map}
use Rattle.std.specs.Prelude.{slice_get, Some, All}
use Rattle.std.proofs.lemmas.List.{length-map}
use Rattle.std.proofs.lemmas.List.Elements.{All-head, All-tail, All-cons}
use Rattle.std.proofs.lemmas.Option.{slice_get_within, get_or_from_slice_get}
use Rattle.sp_values.specs.declared.value.Ty.{Ty}
use Rattle.sp_values.specs.declared.value.Ty.TheVariants as ty
use Rattle.sp_core.specs.declared.expr.Expr.{Expr}
use Rattle.sp_core.specs.declared.function.Function.{Function}
use Rattle.sp_core.specs.declared.function.Param.{Param as Parameter}
use Rattle.sp_core.specs.Parts.{Parts, signature}
use Rattle.sp_core.specs.Tree.{Tree, Trees, Const, Var, Not, Two, If, Param, Look, Every, New, none, more, tree}
use Rattle.sp_core.specs.Typing.{HasType, HaveTypes, Signature}
use Rattle.sp_core.specs.WellFormed.{IsParam, IsWellFormed}
use Rattle.sp_sequent.specs.Numbers.{AreShort, IsShort, list_of}

count_typed : (sg : Signature) (xs : List Ty) (ds : Trees) (ts : List Ty) → HaveTypes sg xs ds ts → length (list_of ds) ≡ length ts
count_typed sg xs none [] h = refl
count_typed sg xs none (t ∷ ts) h = absurd h
count_typed sg xs (more d ds) [] h = absurd h
count_typed sg xs (more d ds) (t ∷ ts) h = ap suc (count_typed sg xs ds ts h.1)

module _ (sg : Signature) (params : (q : ℕ) (p : Parameter) → slice_get sg.params q ≡ Some p → length p.formals ≤ 8) (functions : (g : ℕ) (f : Function) → slice_get sg.functions g ≡ Some f → length f.formals ≤ 8) (xs : List Ty) (few : length xs ≤ 65536) where
  mutual
    pub typed_short : (e : Tree) (t : Ty) → HasType sg xs e t → IsShort e
    typed_short (Const v) t h = tt
    typed_short (Var k) t h = omega (arith, few, slice_get_within xs k t h)
    typed_short (Not a) t h = typed_short a ty.Boolean h.1
    typed_short (Two o a b) t h = (typed_short a h.0 h.2, typed_short b h.0 h.3)
    typed_short (If c a b) t h = (typed_short c ty.Boolean h.0, typed_short a t h.1, typed_short b t h.2)
    typed_short (Param q ds) t h = (omega (arith, count_typed sg xs ds _ h.3, length-map h.0.formals (λ p. p.ty), params q h.0 h.1), types_short ds _ h.3)
    typed_short (Look g ds) t h = (omega (arith, count_typed sg xs ds _ h.3, length-map h.0.formals (λ p. p.ty), functions g h.0 h.1), types_short ds _ h.3)
    typed_short (Every j u b) t h = tt
    typed_short (New g ds) t h = (omega (arith, count_typed sg xs ds _ h.3, length-map h.0.formals (λ p. p.ty), functions g h.0 h.1), types_short ds _ h.3)

    types_short : (ds : Trees) (ts : List Ty) → HaveTypes sg xs ds ts → AreShort ds
    types_short none ts h = tt
    types_short (more d ds) [] h = absurd h
    types_short (more d ds) (t ∷ ts) h = (typed_short d t h.0, types_short ds ts h.1)

-- an expression of a well-formed specification
pub short : (p : Parts) → IsWellFormed p → (xs : List Ty) → length xs ≤ 65536 → (e : Tree) (t : Ty) → HasType (signature p) xs e t → IsShort e
short p well xs few = typed_short (signature p) (λ q a e. few_formals q a e) (λ g f e. (well.functions g f e).formals.few) xs few
  where
    few_formals : (q : ℕ) (a : Parameter) → slice_get p.params q ≡ Some a → length a.formals ≤ 8
    few_formals q a e =
        subst (λ (b : Parameter). length b.formals ≤ 8) (get_or_from_slice_get p.params q a a e) (well.params q a (slice_get_within p.params q a e)).formals.few

pub all_short : (p : Parts) → IsWellFormed p → (xs : List Ty) → length xs ≤ 65536 → (es : List Expr) → All (λ e. HasType (signature p) xs e ty.Boolean) (map tree es) → All (λ e. IsShort (tree e)) es
all_short p well xs few [] h = λ k d l. absurd (omega (arith, l))
all_short p well xs few (e ∷ es) h =
    All-cons (λ (e : Expr). IsShort (tree e)) e es (short p well xs few (tree e) ty.Boolean (All-head (λ (e : Tree). HasType (signature p) xs e ty.Boolean) (tree e) (map tree es) h)) (all_short p well xs few es (All-tail (λ (e : Tree). HasType (signature p) xs e ty.Boolean) (tree e) (map tree es) h))
