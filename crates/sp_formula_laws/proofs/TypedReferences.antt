-- The references of a typed expression: their arguments and the conditions on their paths are typed, and all within limits.
use Rattle.std.proofs.Common.{◌≡◌, refl, sym, subst, arith, ℕ, zero, suc, ◌≤◌, Bool, true, false, List, [], ◌∷◌, ◌++◌, length, map, append_assoc}
use Rattle.std.specs.Prelude.{Some, slice_get}
use Rattle.std.specs.List.{All}
use Rattle.std.proofs.lemmas.List.{append-nil}
use Rattle.std.proofs.lemmas.List.Elements.{All-append, All-cons, All-map, All-nil, All-push, All-weaker}
use Rattle.sp_text.specs.declared.limits.TheConstants.{MOST_QUANTIFIERS}
use Rattle.sp_values.specs.declared.value.Ty.{Ty}
use Rattle.sp_values.specs.declared.value.Ty.TheVariants as ty
use Rattle.sp_values.specs.declared.value.Op.{Op}
use Rattle.sp_values.specs.declared.value.Op.TheVariants as op
use Rattle.sp_core.specs.declared.function.Function.{Function}
use Rattle.sp_core.specs.Machine.{types_of}
use Rattle.sp_core.specs.Measures.{quantifiers, quantifiers_in}
use Rattle.sp_core.specs.Tree.{Tree, Trees, Const, Var, Not, Two, If, Param, Look, Every, New, none, more}
use Rattle.sp_core.specs.Typing.{HasType, HaveTypes, MakesType, Signature, is_type}
use Rattle.sp_formulas.specs.References.{Reference, references, references_in, right_of, under, within}
use Rattle.sp_formula_laws.proofs.FrontTypes.{AreTypes, IsFront, finite_type, front_of}

-- a reference to f in an expression over xs, with at most b variables of its own
pub record IsReferenceTo (sg : Signature) (b : ℕ) (xs : List Ty) (r : Reference) (f : Function) : Type 0 where
  pub function : slice_get sg.functions r.fun ≡ Some f
  pub args : HaveTypes sg (xs ++ r.vars) r.args (types_of f.formals)
  pub few_in_args : quantifiers_in r.args ≤ MOST_QUANTIFIERS
  pub path : All (IsFront sg (xs ++ r.vars) ty.Boolean) r.path
  pub types : AreTypes sg r.vars
  pub few_variables : length r.vars ≤ b

abbrev pub IsReference : Signature → ℕ → List Ty → Reference → Type 0
IsReference sg b xs r = (f : Function) × IsReferenceTo sg b xs r f

module _ (sg : Signature) where
  under_typed : (b : ℕ) (xs : List Ty) (c : Tree) → HasType sg xs c ty.Boolean → quantifiers c ≤ MOST_QUANTIFIERS → (rs : List Reference) → All (IsReference sg b xs) rs → All (IsReference sg b xs) (map (under c) rs)
  under_typed b xs c t l rs h = All-map (IsReference sg b xs) (under c) rs (All-weaker (IsReference sg b xs) (λ r. IsReference sg b xs (under c r))
      (λ r k. (
        k.0,
        record {
          function = k.1.function;
          args = k.1.args;
          few_in_args = k.1.few_in_args;
          path = All-cons (IsFront sg (xs ++ r.vars) ty.Boolean) c r.path (front_of sg xs r.vars ty.Boolean c t l) k.1.path;
          types = k.1.types;
          few_variables = k.1.few_variables;
        },
      )) rs h)

  within_typed : (b : ℕ) (xs : List Ty) (u : Ty) → AreTypes sg (u ∷ []) → (rs : List Reference) → All (IsReference sg b (xs ++ u ∷ [])) rs → All (IsReference sg (suc b) xs) (map (within u) rs)
  within_typed b xs u own rs h = All-map (IsReference sg (suc b) xs) (within u) rs (All-weaker (IsReference sg b (xs ++ u ∷ [])) (λ r. IsReference sg (suc b) xs (within u r))
      (λ r k. (
        k.0,
        record {
          function = k.1.function;
          args = subst (λ ys. HaveTypes sg ys r.args (types_of k.0.formals)) (append_assoc xs (u ∷ []) r.vars) k.1.args;
          few_in_args = k.1.few_in_args;
          path = subst (λ ys. All (IsFront sg ys ty.Boolean) r.path) (append_assoc xs (u ∷ []) r.vars) k.1.path;
          types = All-append (λ t. is_type sg t ≡ true) (u ∷ []) r.vars own k.1.types;
          few_variables = omega (arith, k.1.few_variables);
        },
      )) rs h)

  right_typed : (b : ℕ) (o : Op) (u t : Ty) → MakesType o u t → (xs : List Ty) (a : Tree) → HasType sg xs a u → quantifiers a ≤ MOST_QUANTIFIERS → (rs : List Reference) → All (IsReference sg b xs) rs → All (IsReference sg b xs) (right_of o a rs)
  right_typed b op.And u t i xs a h l rs k = under_typed b xs a (subst (HasType sg xs a) i.0 h) l rs k
  right_typed b op.Or u t i xs a h l rs k = under_typed b xs (Not a) (refl, subst (HasType sg xs a) i.0 h) l rs k
  right_typed b op.Same u t i xs a h l rs k = k
  right_typed b op.LevelLe u t i xs a h l rs k = k
  right_typed b op.IntLe u t i xs a h l rs k = k
  right_typed b op.IntLt u t i xs a h l rs k = k
  right_typed b op.Add u t i xs a h l rs k = k
  right_typed b op.Sub u t i xs a h l rs k = k
  right_typed b op.Mul u t i xs a h l rs k = k
  right_typed b op.Lub u t i xs a h l rs k = k
  right_typed b op.Glb u t i xs a h l rs k = k

  itself : (b : ℕ) (n : Bool) (g : ℕ) (ds : Trees) (xs : List Ty) (f : Function) → slice_get sg.functions g ≡ Some f → HaveTypes sg xs ds (types_of f.formals) → quantifiers_in ds ≤ MOST_QUANTIFIERS
      → (rs : List Reference) → All (IsReference sg b xs) rs → All (IsReference sg b xs) (rs ++ record { vars = []; path = []; is_new = n; fun = g; args = ds } ∷ [])
  itself b n g ds xs f there h l rs k = All-push (IsReference sg b xs) rs (record { vars = []; path = []; is_new = n; fun = g; args = ds }) k (
    f,
    record {
      function = there;
      args = subst (λ ys. HaveTypes sg ys ds (types_of f.formals)) (sym (append-nil xs)) h;
      few_in_args = l;
      path = All-nil (IsFront sg (xs ++ []) ty.Boolean);
      types = All-nil (λ t. is_type sg t ≡ true);
      few_variables = omega arith;
    },
  )

  mutual
    pub references_typed : (b : ℕ) → b ≤ MOST_QUANTIFIERS → (e : Tree) (xs : List Ty) (t : Ty) → quantifiers e ≤ b → HasType sg xs e t → All (IsReference sg b xs) (references e)
    references_typed b m (Const v) xs t l h = All-nil (IsReference sg b xs)
    references_typed b m (Var k) xs t l h = All-nil (IsReference sg b xs)
    references_typed b m (Not a) xs t l h = references_typed b m a xs ty.Boolean l h.1
    references_typed b m (Two o a c) xs t l h =
        All-append (IsReference sg b xs) (references a) (right_of o a (references c)) (references_typed b m a xs h.0 (omega (arith, l)) h.2)
        (right_typed b o h.0 t h.1 xs a h.2 (omega (arith, l, m)) (references c) (references_typed b m c xs h.0 (omega (arith, l)) h.3))
    references_typed b m (If c a d) xs t l h =
        All-append (IsReference sg b xs) (references c) (map (under c) (references a) ++ map (under (Not c)) (references d)) (references_typed b m c xs ty.Boolean (omega (arith, l)) h.0)
        (All-append (IsReference sg b xs) (map (under c) (references a)) (map (under (Not c)) (references d))
        (under_typed b xs c h.0 (omega (arith, l, m)) (references a) (references_typed b m a xs t (omega (arith, l)) h.1))
        (under_typed b xs (Not c) (refl, h.0) (omega (arith, l, m)) (references d) (references_typed b m d xs t (omega (arith, l)) h.2)))
    references_typed b m (Param q ds) xs t l h = all_references_typed b m ds xs (types_of h.0.formals) l h.3
    references_typed b m (Look g ds) xs t l h = itself b false g ds xs h.0 h.1 h.3 (omega (arith, l, m)) (references_in ds) (all_references_typed b m ds xs (types_of h.0.formals) l h.3)
    references_typed zero m (Every k u a) xs t l h = absurd (omega (arith, l))
    references_typed (suc b) m (Every k u a) xs t l h =
        within_typed b xs u (All-cons (λ t. is_type sg t ≡ true) u [] (finite_type sg u h.2) (All-nil (λ t. is_type sg t ≡ true))) (references a)
        (references_typed b (omega (arith, m)) a (xs ++ u ∷ []) ty.Boolean (omega (arith, l)) h.3)
    references_typed b m (New g ds) xs t l h = itself b true g ds xs h.0 h.1 h.3 (omega (arith, l, m)) (references_in ds) (all_references_typed b m ds xs (types_of h.0.formals) l h.3)

    pub all_references_typed : (b : ℕ) → b ≤ MOST_QUANTIFIERS → (ds : Trees) (xs : List Ty) (ts : List Ty) → quantifiers_in ds ≤ b → HaveTypes sg xs ds ts → All (IsReference sg b xs) (references_in ds)
    all_references_typed b m none xs [] l h = All-nil (IsReference sg b xs)
    all_references_typed b m none xs (t ∷ ts) l h = absurd h
    all_references_typed b m (more d ds) xs [] l h = absurd h
    all_references_typed b m (more d ds) xs (t ∷ ts) l h =
        All-append (IsReference sg b xs) (references d) (references_in ds) (references_typed b m d xs t (omega (arith, l)) h.0) (all_references_typed b m ds xs ts (omega (arith, l)) h.1)
