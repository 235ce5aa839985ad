-- The changes and results of well-formed effects are typed, with their guards, and each variable of a change stands alone
-- once among its arguments.
use Rattle.std.proofs.Common.{◌≡◌, refl, sym, ◌∙◌, ap, subst, arith, ℕ, suc, ◌<◌, Bool, true, false, List, [], ◌∷◌, ◌++◌, length, map, Option, Some, None}
use Rattle.std.specs.Prelude.{if◌then◌else◌, slice_get}
use Rattle.std.specs.List.{All, Contains}
use Rattle.std.proofs.lemmas.Bool.Decides.{Decides-eqb}
use Rattle.std.proofs.lemmas.List.Elements.{All-cons, All-nil, All-append, All-map, All-weaker, All-contains}
use Rattle.sp_values.specs.declared.value.Value.{Value}
use Rattle.sp_values.specs.declared.value.Ty.{Ty}
use Rattle.sp_values.specs.declared.value.Ty.TheVariants as ty
use Rattle.sp_core.specs.declared.expr.Expr.{Expr}
use Rattle.sp_core.specs.declared.function.Function.{Function}
use Rattle.sp_core.specs.declared.function.Kind.{Kind}
use Rattle.sp_core.specs.declared.function.Kind.TheVariants as kind
use Rattle.sp_core.specs.Effects.{EffectTree, EffectTrees, GuardedChange, GuardedResult, change_under, change_within, changes, changes_in, effect_trees, result_under, results, results_in}
use Rattle.sp_core.specs.Effects as effect
use Rattle.sp_core.specs.Laws.{IsCondition, IsGuard}
use Rattle.sp_core.specs.Machine.{types_of}
use Rattle.sp_core.specs.Tree.{Tree, Trees, Const, Var, Not, Two, If, Param, Look, Every, New, none, more}
use Rattle.sp_core.specs.Typing.{HasType, HaveTypes, Signature, primitive_type}
use Rattle.sp_core.specs.Values.{Reads, World, nth, value_of, values_of}
use Rattle.sp_core.specs.WellFormed.{AreEffects, AreNewExpressions, IsEffect, IsExpression, IsInjective, IsKind, alone, is_variable}
use Rattle.sp_core.proofs.Elements.{Contains-nil}

pub append_assoc : (xs : List Ty) (u : Ty) (vs : List Ty) → (xs ++ u ∷ []) ++ vs ≡ xs ++ (u ∷ vs)
append_assoc [] u vs = refl
append_assoc (x ∷ xs) u vs = ap (λ ys. x ∷ ys) (append_assoc xs u vs)

pub append_nothing : (xs : List Ty) → xs ≡ xs ++ []
append_nothing [] = refl
append_nothing (x ∷ xs) = ap (λ ys. x ∷ ys) (append_nothing xs)

-- a primitive function's kind
pub initial_of : (k : Kind) (t : Ty) → primitive_type k ≡ Some t → (e : Expr) × (k ≡ kind.Primitive t e)
initial_of (kind.Primitive u e) t h = let q : u ≡ t = cc in (e, ap (λ v. kind.Primitive v e) q)
initial_of (kind.Derived u e) t h = cc
initial_of (kind.Operation es) t h = cc
initial_of (kind.Both u es) t h = cc

-- Changes

-- a change of a primitive function, over variables of the types xs and its own
pub record IsTypedChangeOf (sg : Signature) (xs : List Ty) (a : GuardedChange) (f : Function) (t : Ty) : Type 0 where
  pub function : slice_get sg.functions a.fun ≡ Some f
  pub primitive : primitive_type f.kind ≡ Some t
  pub args : HaveTypes sg (xs ++ a.vars) a.args (types_of f.formals)
  pub value : HasType sg (xs ++ a.vars) a.value t

abbrev pub IsTypedChange : Signature → List Ty → GuardedChange → Type 0
IsTypedChange sg xs a = (f : Function) × (t : Ty) × IsTypedChangeOf sg xs a f t

-- with its guards
pub record IsFineChange (sg : Signature) (xs : List Ty) (a : GuardedChange) : Type 0 where
  pub typed : IsTypedChange sg xs a
  pub guards : All (IsGuard sg xs a.vars) a.guards

denial : (sg : Signature) (xs : List Ty) (c : Tree) → IsCondition sg xs c → IsCondition sg xs (Not c)
denial sg xs c h = record { typed = (refl, h.typed); no_new = h.no_new }

condition : (sg : Signature) (xs : List Ty) (c : Tree) → IsExpression sg xs c ty.Boolean → IsCondition sg xs c
condition sg xs c h = record { typed = h.typed; no_new = h.no_new }

arguments_have : (sg : Signature) (xs : List Ty) (ds : Trees) (ts : List Ty) → AreNewExpressions sg xs ds ts → HaveTypes sg xs ds ts
arguments_have sg xs none [] h = tt
arguments_have sg xs none (t ∷ ts) h = absurd h
arguments_have sg xs (more d ds) [] h = absurd h
arguments_have sg xs (more d ds) (t ∷ ts) h = (h.0.typed, arguments_have sg xs ds ts h.1)

-- below one more guard
changes_under : (sg : Signature) (xs : List Ty) (c : Tree) → IsCondition sg xs c → (as' : List GuardedChange) → All (IsFineChange sg xs) as' → All (IsFineChange sg xs) (map (change_under c) as')
changes_under sg xs c fine as' h =
    All-map (IsFineChange sg xs) (change_under c) as' (All-weaker (IsFineChange sg xs) (λ a. IsFineChange sg xs (change_under c a)) (λ a k. record {
      typed = (k.typed.0, k.typed.1, record { function = k.typed.2.function; primitive = k.typed.2.primitive; args = k.typed.2.args; value = k.typed.2.value });
      guards = All-cons (IsGuard sg xs a.vars) c a.guards ([], a.vars, record { parts = refl; condition = subst (λ ys. IsCondition sg ys c) (append_nothing xs) fine }) k.guards;
    }) as' h)

-- below one more FORALL effect
changes_within : (sg : Signature) (xs : List Ty) (u : Ty) (as' : List GuardedChange) → All (IsFineChange sg (xs ++ u ∷ [])) as' → All (IsFineChange sg xs) (map (change_within u) as')
changes_within sg xs u as' h =
    All-map (IsFineChange sg xs) (change_within u) as' (All-weaker (IsFineChange sg (xs ++ u ∷ [])) (λ a. IsFineChange sg xs (change_within u a)) (λ a k.
    let e = append_assoc xs u a.vars in
    record {
      typed = (k.typed.0, k.typed.1, record { function = k.typed.2.function; primitive = k.typed.2.primitive; args = subst (λ ys. HaveTypes sg ys a.args (types_of k.typed.0.formals)) e k.typed.2.args; value = subst (λ ys. HasType sg ys a.value k.typed.1) e k.typed.2.value });
      guards = All-weaker (IsGuard sg (xs ++ u ∷ []) a.vars) (IsGuard sg xs (u ∷ a.vars))
          (λ c g. (u ∷ g.0, g.1, record { parts = ap (λ ys. u ∷ ys) g.2.parts; condition = subst (λ ys. IsCondition sg ys c) (append_assoc xs u g.0) g.2.condition })) a.guards k.guards;
    }) as' h)

mutual
  changes_fine : (sg : Signature) (r : Option Ty) (xs : List Ty) (w : EffectTree) → IsEffect sg r xs w → All (IsFineChange sg xs) (changes w)
  changes_fine sg r xs (effect.Change g ds e) h =
      let q = append_nothing xs in
      All-cons (IsFineChange sg xs) (record { vars = []; guards = []; fun = g; args = ds; value = e }) [] (record {
        typed = (h.0, h.1, record { function = h.2; primitive = h.3; args = subst (λ ys. HaveTypes sg ys ds (types_of h.0.formals)) q (arguments_have sg xs ds (types_of h.0.formals) h.4); value = subst (λ ys. HasType sg ys e h.1) q h.5.typed });
        guards = All-nil (IsGuard sg xs []);
      }) (All-nil (IsFineChange sg xs))
  changes_fine sg r xs (effect.Answer e) h = All-nil (IsFineChange sg xs)
  changes_fine sg r xs (effect.If c as' bs) h =
      let fine = condition sg xs c h.0 in
      All-append (IsFineChange sg xs) (map (change_under c) (changes_in as')) (map (change_under (Not c)) (changes_in bs))
      (changes_under sg xs c fine (changes_in as') (all_changes_fine sg r xs as' h.1)) (changes_under sg xs (Not c) (denial sg xs c fine) (changes_in bs) (all_changes_fine sg r xs bs h.2))
  changes_fine sg r xs (effect.Every k u ws) h = changes_within sg xs u (changes_in ws) (all_changes_fine sg r (xs ++ u ∷ []) ws h.2)

  all_changes_fine : (sg : Signature) (r : Option Ty) (xs : List Ty) (ws : EffectTrees) → AreEffects sg r xs ws → All (IsFineChange sg xs) (changes_in ws)
  all_changes_fine sg r xs effect.none h = All-nil (IsFineChange sg xs)
  all_changes_fine sg r xs (effect.more w ws) h = All-append (IsFineChange sg xs) (changes w) (changes_in ws) (changes_fine sg r xs w h.0) (all_changes_fine sg r xs ws h.1)

module _ (sg : Signature) (xs : List Ty) (g : ℕ) where
  change_fine : (k : Kind) → IsKind sg xs g k → (a : GuardedChange) → Contains (changes_in (effect_trees k)) a → IsFineChange sg xs a
  change_fine (kind.Primitive t e) h a c = absurd (Contains-nil a c)
  change_fine (kind.Derived t e) h a c = absurd (Contains-nil a c)
  change_fine (kind.Operation es) h a c = All-contains (IsFineChange sg xs) (changes_in (effect_trees (kind.Operation es))) a (all_changes_fine sg None xs (effect_trees (kind.Operation es)) h.effects.effects) c
  change_fine (kind.Both t es) h a c = All-contains (IsFineChange sg xs) (changes_in (effect_trees (kind.Both t es))) a (all_changes_fine sg (Some t) xs (effect_trees (kind.Both t es)) h.effects.effects) c

  -- the arguments and the value of a function's change are typed over its formals and the change's variables
  pub change_typed : (k : Kind) → IsKind sg xs g k → (a : GuardedChange) → Contains (changes_in (effect_trees k)) a → IsTypedChange sg xs a
  change_typed k h a c = (change_fine k h a c).typed

  -- its guards are conditions over its formals and the first of its variables
  pub guards_typed : (k : Kind) → IsKind sg xs g k → (a : GuardedChange) → Contains (changes_in (effect_trees k)) a → All (IsGuard sg xs a.vars) a.guards
  guards_typed k h a c = (change_fine k h a c).guards

-- Results

-- a result of type t over variables of the types xs
pub record IsTypedResultOf (sg : Signature) (xs : List Ty) (r : GuardedResult) (t : Ty) : Type 0 where
  pub guards : All (IsCondition sg xs) r.guards
  pub value : HasType sg xs r.value t

-- a result of the type that the function has
abbrev pub IsTypedResult : Signature → List Ty → Option Ty → GuardedResult → Type 0
IsTypedResult sg xs o r = (t : Ty) × (o ≡ Some t) × IsTypedResultOf sg xs r t

results_under : (sg : Signature) (o : Option Ty) (xs : List Ty) (c : Tree) → IsCondition sg xs c → (rs : List GuardedResult) → All (IsTypedResult sg xs o) rs → All (IsTypedResult sg xs o) (map (result_under c) rs)
results_under sg o xs c fine rs h =
    All-map (IsTypedResult sg xs o) (result_under c) rs (All-weaker (IsTypedResult sg xs o) (λ r. IsTypedResult sg xs o (result_under c r))
    (λ r k. (k.0, k.1, record { guards = All-cons (IsCondition sg xs) c r.guards fine k.2.guards; value = k.2.value })) rs h)

mutual
  results_typed : (sg : Signature) (o : Option Ty) (xs : List Ty) (w : EffectTree) → IsEffect sg o xs w → All (IsTypedResult sg xs o) (results w)
  results_typed sg o xs (effect.Change g ds e) h = All-nil (IsTypedResult sg xs o)
  results_typed sg o xs (effect.Answer e) h = All-cons (IsTypedResult sg xs o) (record { guards = []; value = e }) [] (h.0, h.1, record { guards = All-nil (IsCondition sg xs); value = h.2.typed }) (All-nil (IsTypedResult sg xs o))
  results_typed sg o xs (effect.If c as' bs) h =
      let fine = condition sg xs c h.0 in
      All-append (IsTypedResult sg xs o) (map (result_under c) (results_in as')) (map (result_under (Not c)) (results_in bs))
      (results_under sg o xs c fine (results_in as') (all_results_typed sg o xs as' h.1)) (results_under sg o xs (Not c) (denial sg xs c fine) (results_in bs) (all_results_typed sg o xs bs h.2))
  results_typed sg o xs (effect.Every k u ws) h = All-nil (IsTypedResult sg xs o)

  all_results_typed : (sg : Signature) (o : Option Ty) (xs : List Ty) (ws : EffectTrees) → AreEffects sg o xs ws → All (IsTypedResult sg xs o) (results_in ws)
  all_results_typed sg o xs effect.none h = All-nil (IsTypedResult sg xs o)
  all_results_typed sg o xs (effect.more w ws) h = All-append (IsTypedResult sg xs o) (results w) (results_in ws) (results_typed sg o xs w h.0) (all_results_typed sg o xs ws h.1)

-- the type of an OV-function's results
abbrev pub result_type : Kind → Option Ty
result_type (kind.Both t es) = Some t
result_type k = None

-- the guards and the value of a function's result are typed over its formals
pub result_typed : (sg : Signature) (xs : List Ty) (g : ℕ) (k : Kind) → IsKind sg xs g k → (r : GuardedResult) → Contains (results_in (effect_trees k)) r → IsTypedResult sg xs (result_type k) r
result_typed sg xs g (kind.Primitive t e) h r c = absurd (Contains-nil r c)
result_typed sg xs g (kind.Derived t e) h r c = absurd (Contains-nil r c)
result_typed sg xs g (kind.Operation es) h r c = All-contains (IsTypedResult sg xs None) (results_in (effect_trees (kind.Operation es))) r (all_results_typed sg None xs (effect_trees (kind.Operation es)) h.effects.effects) c
result_typed sg xs g (kind.Both t es) h r c = All-contains (IsTypedResult sg xs (Some t)) (results_in (effect_trees (kind.Both t es))) r (all_results_typed sg (Some t) xs (effect_trees (kind.Both t es)) h.effects.effects) c

-- Bound variables

-- each variable of a change stands alone as an argument of its place
pub alone_once : (sg : Signature) (xs : List Ty) (g : ℕ) (k : Kind) → IsKind sg xs g k → (a : GuardedChange) → Contains (changes_in (effect_trees k)) a → IsInjective (length xs) a
alone_once sg xs g (kind.Primitive t e) h a c = absurd (Contains-nil a c)
alone_once sg xs g (kind.Derived t e) h a c = absurd (Contains-nil a c)
alone_once sg xs g (kind.Operation es) h a c = All-contains (IsInjective (length xs)) (changes_in (effect_trees (kind.Operation es))) a h.effects.injective c
alone_once sg xs g (kind.Both t es) h a c = All-contains (IsInjective (length xs)) (changes_in (effect_trees (kind.Both t es))) a h.effects.injective c

variable_is : (k : ℕ) (d : Tree) → is_variable k d ≡ true → d ≡ Var k
variable_is k (Const v) e = cc
variable_is k (Var j) e = ap Var ((Decides-eqb j k).0 e)
variable_is k (Not a) e = cc
variable_is k (Two o a b) e = cc
variable_is k (If c a b) e = cc
variable_is k (Param p ds) e = cc
variable_is k (Look g ds) e = cc
variable_is k (Every j t b) e = cc
variable_is k (New g ds) e = cc

-- where the arguments have equal values, so has a variable that stands alone among them
pub alone_same : (w : World) (r n : Reads) (k : ℕ) (ds : Trees) (x y : List Value) → 0 < alone k ds → values_of w r n x ds ≡ values_of w r n y ds → nth x k ≡ nth y k
alone_same w r n k none x y l e = absurd (omega (arith, l))
alone_same w r n k (more d ds) x y l e = by (is_variable k d) refl l (alone_same w r n k ds x y)
  where
    by : (b : Bool) → is_variable k d ≡ b → 0 < (if b then suc (alone k ds) else alone k ds) → (0 < alone k ds → values_of w r n x ds ≡ values_of w r n y ds → nth x k ≡ nth y k) → nth x k ≡ nth y k
    by true q l ih =
        let first : value_of w r n x d ≡ value_of w r n y d = cc in
        let own = variable_is k d q in
        sym (ap (value_of w r n x) own) ∙ first ∙ ap (value_of w r n y) own
    by false q l ih = let rest : values_of w r n x ds ≡ values_of w r n y ds = cc in ih l rest
