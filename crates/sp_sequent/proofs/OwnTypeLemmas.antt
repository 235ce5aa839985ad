-- A typed expression shows its type, or it shows none and the type has `?`.
use Rattle.std.proofs.Common.{◌≡◌, refl, sym, ◌∙◌, ap, rules, ℕ, Bool, true, false, ◌⊎◌, inl, inr, List, zero, suc, ◌+◌, [], ◌∷◌, ◌++◌, drop, append_assoc, arith}
use Rattle.std.specs.Prelude.{◌==◌, ◌&&◌, IsTrue, Option, Some, None, slice_get, if◌then◌else◌}
use Rattle.std.proofs.lemmas.Option.{none-some, same_Some}
use Rattle.std.specs.Option.{option_map}
use Rattle.sp_values.specs.declared.value.Value.{Value}
use Rattle.sp_values.specs.declared.value.Value.TheVariants as value
use Rattle.sp_values.specs.declared.value.Ty.{Ty}
use Rattle.sp_values.specs.declared.value.Ty.TheVariants as ty
use Rattle.sp_values.specs.declared.value.Op.{Op}
use Rattle.sp_values.specs.Domains.{has_unknown}
use Rattle.sp_values.specs.declared.value.Op.TheVariants as op
use Rattle.sp_core.specs.declared.function.Kind.{Kind}
use Rattle.sp_core.specs.declared.function.Kind.TheVariants as kind
use Rattle.sp_core.specs.Tree.{Tree, Const, Var, Not, Two, If, Param, Look, Every, New}
use Rattle.sp_core.specs.Typing.{HasType, MakesType, Signature, is_constant, primitive_type, read_type}
use Rattle.sp_sequent.specs.OwnTypes.{constant_type, function_type, is_in, is_level, own_type, result_type, atoms_from, is_atom}
use Rattle.sp_sequent.specs.Same.{same_type}

abbrev pub Shows : Option Ty → Ty → Type 0
Shows o t = (o ≡ Some t) ⊎ ((o ≡ None) × IsTrue (has_unknown t))

equal_of : (j k : ℕ) (b : Bool) → ((j == k) && b) ≡ true → j ≡ k
equal_of j k b h = search (rules, h)

constant_shows : (sg : Signature) (t : Ty) (v : Value) → IsTrue (is_constant sg t v) → Shows (constant_type v) t
constant_shows sg ty.Boolean (value.Truth b) h = inl refl
constant_shows sg ty.Integer (value.Int n) h = inl refl
constant_shows sg ty.Integer value.Unknown h = inr (refl, refl)
constant_shows sg ty.Level (value.Level l) h = inl refl
constant_shows sg (ty.Member k) (value.Member j m) h = inl (ap (λ n. Some (ty.Member n)) (equal_of j k _ h))
constant_shows sg (ty.Member k) value.Unknown h = inr (refl, refl)
constant_shows sg t v h = absurd (cc)

operator_shows : (o : Op) (u t : Ty) → MakesType o u t → t ≡ result_type o
operator_shows op.And u t h = h.1
operator_shows op.Or u t h = h.1
operator_shows op.Same u t h = h
operator_shows op.LevelLe u t h = h.1
operator_shows op.IntLe u t h = h.1
operator_shows op.IntLt u t h = h.1
operator_shows op.Add u t h = h.1
operator_shows op.Sub u t h = h.1
operator_shows op.Mul u t h = h.1
operator_shows op.Lub u t h = h.1
operator_shows op.Glb u t h = h.1

primitive_reads : (k : Kind) (t : Ty) → primitive_type k ≡ Some t → read_type k ≡ Some t
primitive_reads (kind.Primitive u e) t h = h
primitive_reads (kind.Derived u e) t h = absurd (cc)
primitive_reads (kind.Operation es) t h = absurd (cc)
primitive_reads (kind.Both u es) t h = absurd (cc)

pub own_type_shows : (sg : Signature) (xs : List Ty) (e : Tree) (t : Ty) → HasType sg xs e t → Shows (own_type sg xs e) t
own_type_shows sg xs (Const v) t h = constant_shows sg t v h
own_type_shows sg xs (Var k) t h = inl h
own_type_shows sg xs (Not a) t h = inl (ap Some (sym h.0))
own_type_shows sg xs (Two o a b) t h = inl (ap Some (sym (operator_shows o h.0 t h.1)))
own_type_shows sg xs (If c a b) t h = own_type_shows sg xs a t h.1
own_type_shows sg xs (Param q ds) t h = inl (ap (option_map (λ p. p.ty)) h.1 ∙ ap Some h.2)
own_type_shows sg xs (Look g ds) t h = inl (ap function_type h.1 ∙ h.2)
own_type_shows sg xs (Every k u b) t h = inl (ap Some (sym h.0))
own_type_shows sg xs (New g ds) t h = inl (ap function_type h.1 ∙ primitive_reads h.0.kind t h.2)

-- so level terms are those of type LEVEL, and the same for BOOLEAN
shows_in : (u t : Ty) (o : Option Ty) → has_unknown u ≡ false → Shows o t → is_in u o ≡ same_type u t
shows_in u t o q (inl h) = ap (is_in u) h
shows_in ty.Boolean ty.Boolean o q (inr h) = absurd (cc)
shows_in ty.Level ty.Level o q (inr h) = absurd (cc)
shows_in ty.Boolean ty.Level o q (inr h) = absurd (cc)
shows_in ty.Level ty.Boolean o q (inr h) = absurd (cc)
shows_in ty.Boolean ty.Integer o q (inr h) = ap (is_in ty.Boolean) h.0
shows_in ty.Boolean (ty.Member k) o q (inr h) = ap (is_in ty.Boolean) h.0
shows_in ty.Level ty.Integer o q (inr h) = ap (is_in ty.Level) h.0
shows_in ty.Level (ty.Member k) o q (inr h) = ap (is_in ty.Level) h.0
shows_in ty.Integer t o q (inr h) = absurd (cc)
shows_in (ty.Member k) t o q (inr h) = absurd (cc)

pub typed_level : (sg : Signature) (xs : List Ty) (e : Tree) (t : Ty) → HasType sg xs e t → is_level sg xs e ≡ same_type ty.Level t
typed_level sg xs e t h = shows_in ty.Level t (own_type sg xs e) refl (own_type_shows sg xs e t h)

pub typed_boolean : (sg : Signature) (xs : List Ty) (e : Tree) (t : Ty) → HasType sg xs e t → is_in ty.Boolean (own_type sg xs e) ≡ same_type ty.Boolean t
typed_boolean sg xs e t h = shows_in ty.Boolean t (own_type sg xs e) refl (own_type_shows sg xs e t h)

-- the atoms from one term on
drop_next : (ts : List Tree) (k : ℕ) (e : Tree) → slice_get ts k ≡ Some e → drop k ts ≡ e ∷ drop (suc k) ts
drop_next [] k e q = absurd (none-some e q)
drop_next (t ∷ ts) zero e q = ap (λ x. x ∷ ts) (same_Some t e q)
drop_next (t ∷ ts) (suc k) e q = drop_next ts k e q

pub atoms_step : (sg : Signature) (xs : List Ty) (ts : List Tree) (k : ℕ) (e : Tree) → slice_get ts k ≡ Some e → (all longer total : List ℕ) (b : Bool) → b ≡ is_atom sg xs e
    → longer ≡ all ++ (if b then k ∷ [] else []) → all ++ atoms_from sg xs k (drop k ts) ≡ total → longer ++ atoms_from sg xs (k + 1) (drop (k + 1) ts) ≡ total
atoms_step sg xs ts k e at all longer total b is up h =
    let n : k + 1 ≡ suc k = omega arith in
    ap (λ m. longer ++ atoms_from sg xs (k + 1) (drop m ts)) n ∙ ap (λ x. x ++ atoms_from sg xs (k + 1) (drop (suc k) ts)) up
    ∙ append_assoc all (if b then k ∷ [] else []) (atoms_from sg xs (k + 1) (drop (suc k) ts))
    ∙ ap (λ x. all ++ x) (by b ∙ ap (λ c. if c then k ∷ atoms_from sg xs (k + 1) (drop (suc k) ts) else atoms_from sg xs (k + 1) (drop (suc k) ts)) is)
    ∙ ap (λ x. all ++ atoms_from sg xs k x) (sym (drop_next ts k e at)) ∙ h
  where
    by : (b : Bool) → (if b then k ∷ [] else []) ++ atoms_from sg xs (k + 1) (drop (suc k) ts) ≡ (if b then k ∷ atoms_from sg xs (k + 1) (drop (suc k) ts) else atoms_from sg xs (k + 1) (drop (suc k) ts))
    by true = refl
    by false = refl
