-- What the worked specifications have in common: lists of a few items, and functions without exceptions.
use Rattle.std.proofs.Common.{◌≡◌, refl, sym, subst, arith, ℕ, ◌≤◌, Bool, List, [], ◌∷◌, length, map, Some}
use Rattle.std.specs.Prelude.{IsTrue, nat_lt, slice_get}
use Rattle.std.specs.List.{All}
use Rattle.std.proofs.lemmas.List.{length-map}
use Rattle.std.proofs.lemmas.List.Elements.{All-cons, All-nil}
use Rattle.sp_lattice.specs.Order.{IsLatticeOrder, Order}
use Rattle.sp_values.specs.declared.value.Ty.{Ty}
use Rattle.sp_values.specs.declared.value.Ty.TheVariants as ty
use Rattle.sp_core.specs.declared.expr.Expr.{Expr}
use Rattle.sp_core.specs.declared.function.Formal.{Formal}
use Rattle.sp_core.specs.declared.function.Function.{Function}
use Rattle.sp_core.specs.declared.function.Kind.{Kind}
use Rattle.sp_core.specs.declared.function.TypeInfo.{TypeInfo}
use Rattle.sp_core.specs.Machine.{types_of}
use Rattle.sp_core.specs.Measures.{kind_nodes}
use Rattle.sp_core.specs.Parts.{signature}
use Rattle.sp_core.specs.Tree.{tree}
use Rattle.sp_core.specs.Typing.{Signature, is_type}
use Rattle.sp_core.specs.WellFormed.{AreFormals, IsAssertion, IsExpression, IsFunction, IsKind, IsLevel, IsParam, IsWellFormed, members_of, names_of}
use Rattle.sp_core.proofs.TreeLemmas.{tree_lemmas}
use Rattle.sp_examples.specs.Common.{designator, low, over_low_high}
use Rattle.sp_examples.proofs.NameLemmas.{AreDifferent-by, all_different}

-- what each of one, or of two, items has
pub All-one : {X : Type 0} (P : X → Type 0) (a : X) → P a → All P (a ∷ [])
All-one P a p = All-cons P a [] p (All-nil P)

pub All-two : {X : Type 0} (P : X → Type 0) (a b : X) → P a → P b → All P (a ∷ b ∷ [])
All-two P a b p q = All-cons P a (b ∷ []) p (All-one P b q)

-- a function without exceptions is fine if its parts are
pub function_fine : (sg : Signature) (g : ℕ) (visible : Bool) (name : List ℕ) (formals : List Formal) (k : Kind) (l : Expr) → AreFormals sg formals → IsKind sg (types_of formals) g k → kind_nodes k ≤ 1024 → IsLevel sg (types_of formals) (tree l)
    → IsFunction sg g (record { name = name; visible = visible; formals = formals; exceptions = []; kind = k; level = l })
function_fine sg g visible name formals k l f q n v =
    let few = v.expression.few_nodes in
    record {
      formals = f;
      few_exceptions = omega arith;
      exception_names = AreDifferent-by [] refl;
      exceptions = All-nil (λ e. IsExpression sg (types_of formals) (tree e.1) ty.Boolean);
      kind = q;
      level = v;
      few_nodes = omega arith;
    }

pub no_formals : (sg : Signature) → AreFormals sg []
no_formals sg = record { few = omega arith; types = All-nil (λ t. IsTrue (is_type sg t)) }

-- LOW is a level where there are two
pub low_fine : (sg : Signature) → sg.levels ≡ 2 → (xs : List Ty) → IsLevel sg xs (tree low)
low_fine sg two xs = simp tree_lemmas (record {
  expression = record { typed = subst (λ n. IsTrue (nat_lt 0 n)) (sym two) refl; few_nodes = omega arith; few_quantifiers = omega arith; no_new = tt };
  reads_nothing = tt;
  no_quantifier = refl;
})

few_designators : (ns : List (List ℕ)) → All (λ i. length (members_of i) ≤ 64) (map designator ns)
few_designators [] = All-nil (λ (i : TypeInfo). length (members_of i) ≤ 64)
few_designators (n ∷ ns) = All-cons (λ i. length (members_of i) ≤ 64) (designator n) (map designator ns) (omega arith) (few_designators ns)

-- a specification of designator types and functions alone is well-formed if its functions are
pub over_fine : (name : List ℕ) (ns : List (List ℕ)) (fs : List Function) (o : Order) → IsLatticeOrder o → o.count ≡ 2 → IsTrue (all_different (names_of (over_low_high name ns fs o))) → length ns ≤ 64 → length fs ≤ 512
    → ((g : ℕ) (f : Function) → slice_get fs g ≡ Some f → IsFunction (signature (over_low_high name ns fs o)) g f) → IsWellFormed (over_low_high name ns fs o)
over_fine name ns fs o lattice two names few_types few_functions functions = record {
  lattice = lattice;
  level_names = sym two;
  names = AreDifferent-by (names_of (over_low_high name ns fs o)) names;
  few_types = omega (arith, length-map ns designator, few_types);
  few_members = few_designators ns;
  few_params = omega arith;
  few_assertions = omega arith;
  few_functions = few_functions;
  params = All-nil (IsParam (signature (over_low_high name ns fs o)));
  assertions = All-nil (IsAssertion (signature (over_low_high name ns fs o)));
  functions = functions;
}
