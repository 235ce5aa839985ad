-- When the parts of a specification are well-formed: the invariant of `Spec`. Each fact of it has a name.
use Rattle.std.specs.Prelude.{◌≡◌, ℕ, suc, ◌+◌, ◌<◌, ◌≤◌, Bool, false, ◌==◌, if◌then◌else◌, IsTrue, List, [], ◌∷◌, ◌++◌, length, map, Option, Some, None, slice_get}
use Rattle.std.specs.List.{All, flat_map}
use Rattle.sp_text.specs.declared.limits.TheConstants.{MOST_ARGUMENTS, MOST_ASSERTIONS, MOST_BOUND_VARIABLES, MOST_CHANGES, MOST_DERIVATION_DEPTH, MOST_EXCEPTIONS, MOST_EXPRESSION_NODES, MOST_FUNCTIONS, MOST_FUNCTION_NODES, MOST_MEMBERS, MOST_PARAMETERS, MOST_QUANTIFIERS, MOST_TYPES}
use Rattle.sp_values.specs.declared.value.Ty.{Ty}
use Rattle.sp_values.specs.declared.value.Ty.TheVariants as ty
use Rattle.sp_lattice.specs.Order.{IsLatticeOrder}
use Rattle.sp_core.specs.declared.expr.Expr.{Expr}
use Rattle.sp_core.specs.declared.function.Assertion.{Assertion}
use Rattle.sp_core.specs.declared.function.Formal.{Formal}
use Rattle.sp_core.specs.declared.function.Function.{Function}
use Rattle.sp_core.specs.declared.function.Kind.{Kind}
use Rattle.sp_core.specs.declared.function.Kind.TheVariants as kind
use Rattle.sp_core.specs.declared.function.Param.{Param}
use Rattle.sp_core.specs.declared.function.TypeInfo.{TypeInfo}
use Rattle.sp_core.specs.Effects.{EffectTree, EffectTrees, GuardedChange, changes_in, effect_trees}
use Rattle.sp_core.specs.Effects as effect
use Rattle.sp_core.specs.Machine.{types_of}
use Rattle.sp_core.specs.Measures.{Anything, HaveResults, IsWithinDepth, LooksAt, Nothing, bound_variables_in, function_nodes, nodes, quantifiers}
use Rattle.sp_core.specs.Parts.{Parts, signature}
use Rattle.sp_core.specs.Ranks.{HasNoCycle}
use Rattle.sp_core.specs.Tree.{Tree, Trees, Var, none, more, tree}
use Rattle.sp_core.specs.Typing.{HasType, Signature, is_finite, is_type, primitive_type}

-- Names

-- no name stands at two places of the list
abbrev pub AreDifferent : List (List ℕ) → Type 0
AreDifferent names = (i j : ℕ) (n : List ℕ) → slice_get names i ≡ Some n → slice_get names j ≡ Some n → i ≡ j

-- the names of an enumeration's members
abbrev pub members_of : TypeInfo → List (List ℕ)
members_of info = by info.members
  where
    by : Option (List (List ℕ)) → List (List ℕ)
    by None = []
    by (Some names) = names

-- the names of types, members, parameters, functions and levels, which share one space
abbrev pub names_of : Parts → List (List ℕ)
names_of p =
    map (λ i. i.name) p.types ++ flat_map members_of p.types ++ map (λ q. q.name) p.params ++ map (λ f. f.name) p.functions ++ p.level_names

-- Expressions

-- an expression of type t over variables of the types xs, within the limits of nodes and of quantifiers, without new values
pub record IsExpression (sg : Signature) (xs : List Ty) (e : Tree) (t : Ty) : Type 0 where
  pub typed : HasType sg xs e t
  pub few_nodes : nodes e ≤ MOST_EXPRESSION_NODES
  pub few_quantifiers : quantifiers e ≤ MOST_QUANTIFIERS
  pub no_new : LooksAt Anything Nothing e

-- the same where it may read new values, which are those of primitive functions: it gives a place, its value or a result
pub record IsNewExpression (sg : Signature) (xs : List Ty) (e : Tree) (t : Ty) : Type 0 where
  pub typed : HasType sg xs e t
  pub few_nodes : nodes e ≤ MOST_EXPRESSION_NODES
  pub few_quantifiers : quantifiers e ≤ MOST_QUANTIFIERS

-- such expressions, one for each type
abbrev pub AreNewExpressions : Signature → List Ty → Trees → List Ty → Type 0
AreNewExpressions sg xs none [] = Unit {0}
AreNewExpressions sg xs none (t ∷ ts) = ⊥
AreNewExpressions sg xs (more d ds) [] = ⊥
AreNewExpressions sg xs (more d ds) (t ∷ ts) = IsNewExpression sg xs d t × AreNewExpressions sg xs ds ts

-- at most eight formals, of types of the signature
pub record AreFormals (sg : Signature) (formals : List Formal) : Type 0 where
  pub few : length formals ≤ MOST_ARGUMENTS
  pub types : All (λ t. IsTrue (is_type sg t)) (types_of formals)

-- Effects

-- Effects over variables of the types xs; a result has type r. A FORALL effect has the number of the variables around it,
-- which is the place of its own variable. A condition reads no new value.
abbrev mutual
  pub IsEffect : Signature → Option Ty → List Ty → EffectTree → Type 0
  IsEffect sg r xs (effect.Change g ds e) = (f : Function) × (t : Ty) × (slice_get sg.functions g ≡ Some f) × (primitive_type f.kind ≡ Some t) × AreNewExpressions sg xs ds (types_of f.formals) × IsNewExpression sg xs e t
  IsEffect sg r xs (effect.Answer e) = (t : Ty) × (r ≡ Some t) × IsNewExpression sg xs e t
  IsEffect sg r xs (effect.If c as' bs) = IsExpression sg xs c ty.Boolean × AreEffects sg r xs as' × AreEffects sg r xs bs
  IsEffect sg r xs (effect.Every k u ws) = (k ≡ length xs) × IsTrue (is_finite sg u) × AreEffects sg r (xs ++ u ∷ []) ws

  pub AreEffects : Signature → Option Ty → List Ty → EffectTrees → Type 0
  AreEffects sg r xs effect.none = Unit {0}
  AreEffects sg r xs (effect.more w ws) = IsEffect sg r xs w × AreEffects sg r xs ws

-- whether the expression is the variable k alone
abbrev pub is_variable : ℕ → Tree → Bool
is_variable k (Var j) = j == k
is_variable k e = false

-- how many of the arguments are the variable k alone
abbrev pub alone : ℕ → Trees → ℕ
alone k none = 0
alone k (more d ds) = if is_variable k d then suc (alone k ds) else alone k ds

-- each variable that a FORALL effect binds around the change, from number n on, stands alone as exactly one argument
abbrev pub IsInjective : ℕ → GuardedChange → Type 0
IsInjective n a = (j : ℕ) → j < length a.vars → alone (n + j) a.args ≡ 1

-- effects of a function with formals of the types xs; what their changes read new makes no cycle
pub record AreEffectsOf (sg : Signature) (r : Option Ty) (xs : List Ty) (ws : EffectTrees) : Type 0 where
  pub effects : AreEffects sg r xs ws
  pub few_bound : bound_variables_in ws ≤ MOST_BOUND_VARIABLES
  pub few_changes : length (changes_in ws) ≤ MOST_CHANGES
  pub injective : All (IsInjective (length xs)) (changes_in ws)
  pub no_cycle : HasNoCycle (changes_in ws)

-- Declarations

-- an INITIALLY: it looks at no V-function
pub record IsInitial (sg : Signature) (xs : List Ty) (t : Ty) (e : Expr) : Type 0 where
  pub type : IsTrue (is_type sg t)
  pub expression : IsExpression sg xs (tree e) t
  pub reads_nothing : LooksAt Nothing Nothing (tree e)

-- function h, of this kind, isn't derived, or it stands before function g
abbrev pub IsEarlierAs : ℕ → ℕ → Kind → Type 0
IsEarlierAs g h (kind.Derived t e) = h < g
IsEarlierAs g h k = Unit {0}

abbrev pub IsEarlier : List Function → ℕ → ℕ → Type 0
IsEarlier fs g h = (f : Function) → slice_get fs h ≡ Some f → IsEarlierAs g h f.kind

-- the derivation of function g: it looks at primitive functions and at earlier derived ones, and is at most sixteen deep
pub record IsDerivation (sg : Signature) (xs : List Ty) (g : ℕ) (t : Ty) (e : Expr) : Type 0 where
  pub type : IsTrue (is_type sg t)
  pub expression : IsExpression sg xs (tree e) t
  pub reads_earlier : LooksAt (IsEarlier sg.functions g) Nothing (tree e)
  pub within_depth : IsWithinDepth sg.functions MOST_DERIVATION_DEPTH g

-- effects without a result
pub record IsOperation (sg : Signature) (xs : List Ty) (ws : EffectTrees) : Type 0 where
  pub effects : AreEffectsOf sg None xs ws
  pub no_result : HaveResults 0 ws

-- effects with exactly one result on each path
pub record IsBoth (sg : Signature) (xs : List Ty) (t : Ty) (ws : EffectTrees) : Type 0 where
  pub type : IsTrue (is_type sg t)
  pub effects : AreEffectsOf sg (Some t) xs ws
  pub one_result : HaveResults 1 ws

-- what function g does, by its kind
abbrev pub IsKind : Signature → List Ty → ℕ → Kind → Type 0
IsKind sg xs g (kind.Primitive t e) = IsInitial sg xs t e
IsKind sg xs g (kind.Derived t e) = IsDerivation sg xs g t e
IsKind sg xs g (kind.Operation es) = IsOperation sg xs (effect_trees (kind.Operation es))
IsKind sg xs g (kind.Both t es) = IsBoth sg xs t (effect_trees (kind.Both t es))

-- a level: it looks at no V-function and holds no quantifier
pub record IsLevel (sg : Signature) (xs : List Ty) (e : Tree) : Type 0 where
  pub expression : IsExpression sg xs e ty.Level
  pub reads_nothing : LooksAt Nothing Nothing e
  pub no_quantifier : quantifiers e ≡ 0

-- function number g
pub record IsFunction (sg : Signature) (g : ℕ) (f : Function) : Type 0 where
  pub formals : AreFormals sg f.formals
  pub few_exceptions : length f.exceptions ≤ MOST_EXCEPTIONS
  pub exception_names : AreDifferent (map (λ e. e.0) f.exceptions)
  pub exceptions : All (λ e. IsExpression sg (types_of f.formals) (tree e.1) ty.Boolean) f.exceptions
  pub kind : IsKind sg (types_of f.formals) g f.kind
  pub level : IsLevel sg (types_of f.formals) (tree f.level)
  pub few_nodes : function_nodes f ≤ MOST_FUNCTION_NODES

-- a parameter
pub record IsParam (sg : Signature) (q : Param) : Type 0 where
  pub formals : AreFormals sg q.formals
  pub type : IsTrue (is_type sg q.ty)

-- an assertion: it looks at no V-function, and its variables count as quantifiers around its body
pub record IsAssertion (sg : Signature) (a : Assertion) : Type 0 where
  pub variables : All (λ t. IsTrue (is_finite sg t)) (types_of a.vars)
  pub body : IsExpression sg (types_of a.vars) (tree a.body) ty.Boolean
  pub reads_nothing : LooksAt Nothing Nothing (tree a.body)
  pub few_quantifiers : length a.vars + quantifiers (tree a.body) ≤ MOST_QUANTIFIERS

-- a well-formed specification
pub record IsWellFormed (p : Parts) : Type 0 where
  pub lattice : IsLatticeOrder p.lattice
  pub level_names : length p.level_names ≡ p.lattice.count
  pub names : AreDifferent (names_of p)
  pub few_types : length p.types ≤ MOST_TYPES
  pub few_members : All (λ i. length (members_of i) ≤ MOST_MEMBERS) p.types
  pub few_params : length p.params ≤ MOST_PARAMETERS
  pub few_assertions : length p.assertions ≤ MOST_ASSERTIONS
  pub few_functions : length p.functions ≤ MOST_FUNCTIONS
  pub params : All (IsParam (signature p)) p.params
  pub assertions : All (IsAssertion (signature p)) p.assertions
  pub functions : (g : ℕ) (f : Function) → slice_get p.functions g ≡ Some f → IsFunction (signature p) g f
