-- What is counted in expressions and effects, for the limits of well-formed specifications; and what they read.
use Rattle.std.specs.Prelude.{◌≡◌, ℕ, zero, suc, ◌+◌, max, List, sum_by, Option, Some, None, slice_get}
use Rattle.sp_core.specs.declared.function.Function.{Function}
use Rattle.sp_core.specs.declared.function.Kind.{Kind}
use Rattle.sp_core.specs.declared.function.Kind.TheVariants as kind
use Rattle.sp_core.specs.Tree.{Tree, Trees, Const, Var, Not, Two, If, Param, Look, Every, New, none, more, tree}
use Rattle.sp_core.specs.Effects.{EffectTree, EffectTrees, effect_trees}
use Rattle.sp_core.specs.Effects as effect

-- how many nodes an expression has
abbrev mutual
  pub nodes : Tree → ℕ
  nodes (Const v) = 1
  nodes (Var k) = 1
  nodes (Not a) = suc (nodes a)
  nodes (Two o a b) = suc (nodes a + nodes b)
  nodes (If c a b) = suc (nodes c + (nodes a + nodes b))
  nodes (Param p ds) = suc (nodes_in ds)
  nodes (Look g ds) = suc (nodes_in ds)
  nodes (Every k t b) = suc (nodes b)
  nodes (New g ds) = suc (nodes_in ds)

  pub nodes_in : Trees → ℕ
  nodes_in none = 0
  nodes_in (more d ds) = nodes d + nodes_in ds

-- how many quantifiers stand in one another
abbrev mutual
  pub quantifiers : Tree → ℕ
  quantifiers (Const v) = 0
  quantifiers (Var k) = 0
  quantifiers (Not a) = quantifiers a
  quantifiers (Two o a b) = max (quantifiers a) (quantifiers b)
  quantifiers (If c a b) = max (quantifiers c) (max (quantifiers a) (quantifiers b))
  quantifiers (Param p ds) = quantifiers_in ds
  quantifiers (Look g ds) = quantifiers_in ds
  quantifiers (Every k t b) = suc (quantifiers b)
  quantifiers (New g ds) = quantifiers_in ds

  pub quantifiers_in : Trees → ℕ
  quantifiers_in none = 0
  quantifiers_in (more d ds) = max (quantifiers d) (quantifiers_in ds)

-- each V-function that is looked at meets P, and each whose new value is read meets N
abbrev mutual
  pub LooksAt : (ℕ → Type 0) → (ℕ → Type 0) → Tree → Type 0
  LooksAt P N (Const v) = Unit {0}
  LooksAt P N (Var k) = Unit {0}
  LooksAt P N (Not a) = LooksAt P N a
  LooksAt P N (Two o a b) = LooksAt P N a × LooksAt P N b
  LooksAt P N (If c a b) = LooksAt P N c × LooksAt P N a × LooksAt P N b
  LooksAt P N (Param p ds) = LookAt P N ds
  LooksAt P N (Look g ds) = P g × LookAt P N ds
  LooksAt P N (Every k t b) = LooksAt P N b
  LooksAt P N (New g ds) = N g × LookAt P N ds

  pub LookAt : (ℕ → Type 0) → (ℕ → Type 0) → Trees → Type 0
  LookAt P N none = Unit {0}
  LookAt P N (more d ds) = LooksAt P N d × LookAt P N ds

-- no function may be read
abbrev pub Nothing : ℕ → Type 0
Nothing g = ⊥

-- any function may be read
abbrev pub Anything : ℕ → Type 0
Anything g = Unit {0}

-- the nodes of the expressions in effects; an effect itself is none
abbrev mutual
  pub effect_nodes : EffectTree → ℕ
  effect_nodes (effect.Change g ds e) = nodes_in ds + nodes e
  effect_nodes (effect.Answer e) = nodes e
  effect_nodes (effect.If c as' bs) = nodes c + (effect_nodes_in as' + effect_nodes_in bs)
  effect_nodes (effect.Every k t ws) = effect_nodes_in ws

  pub effect_nodes_in : EffectTrees → ℕ
  effect_nodes_in effect.none = 0
  effect_nodes_in (effect.more w ws) = effect_nodes w + effect_nodes_in ws

-- how many variables FORALL effects bind around one effect
abbrev mutual
  pub bound_variables : EffectTree → ℕ
  bound_variables (effect.Change g ds e) = 0
  bound_variables (effect.Answer e) = 0
  bound_variables (effect.If c as' bs) = max (bound_variables_in as') (bound_variables_in bs)
  bound_variables (effect.Every k t ws) = suc (bound_variables_in ws)

  pub bound_variables_in : EffectTrees → ℕ
  bound_variables_in effect.none = 0
  bound_variables_in (effect.more w ws) = max (bound_variables w) (bound_variables_in ws)

-- on each path through the IFs stand n results, and none stands below a FORALL effect
abbrev mutual
  pub HasResults : ℕ → EffectTree → Type 0
  HasResults n (effect.Change g ds e) = n ≡ 0
  HasResults n (effect.Answer e) = n ≡ 1
  HasResults n (effect.If c as' bs) = HaveResults n as' × HaveResults n bs
  HasResults n (effect.Every k t ws) = (n ≡ 0) × HaveResults 0 ws

  pub HaveResults : ℕ → EffectTrees → Type 0
  HaveResults n effect.none = n ≡ 0
  HaveResults n (effect.more w ws) = (a : ℕ) × (b : ℕ) × (n ≡ a + b) × HasResults a w × HaveResults b ws

-- the nodes of a V-function's own expression, or of the effects
abbrev pub kind_nodes : Kind → ℕ
kind_nodes (kind.Primitive t e) = nodes (tree e)
kind_nodes (kind.Derived t e) = nodes (tree e)
kind_nodes (kind.Operation es) = effect_nodes_in (effect_trees (kind.Operation es))
kind_nodes (kind.Both t es) = effect_nodes_in (effect_trees (kind.Both t es))

-- the nodes of all expressions of a function, its level included
abbrev pub function_nodes : Function → ℕ
function_nodes f = sum_by (λ e. nodes (tree e.1)) f.exceptions + (kind_nodes f.kind + nodes (tree f.level))

-- each V-function that the derivation reads meets P; a function that isn't derived reads none
abbrev pub DerivesFrom : (ℕ → Type 0) → Option Function → Type 0
DerivesFrom P None = Unit {0}
DerivesFrom P (Some f) = by f.kind
  where
    by : Kind → Type 0
    by (kind.Derived t e) = LooksAt P Anything (tree e)
    by k = Unit {0}

-- the function isn't derived
abbrev pub IsNotDerived : Option Function → Type 0
IsNotDerived None = Unit {0}
IsNotDerived (Some f) = by f.kind
  where
    by : Kind → Type 0
    by (kind.Derived t e) = ⊥
    by k = Unit {0}

-- the function, by its number, is at most n deep: a derived function is one deeper than the deepest that it reads, and a
-- primitive one has depth 0
abbrev pub IsWithinDepth : List Function → ℕ → ℕ → Type 0
IsWithinDepth fs zero g = IsNotDerived (slice_get fs g)
IsWithinDepth fs (suc n) g = DerivesFrom (IsWithinDepth fs n) (slice_get fs g)

-- the rank of a function: 0 for one that isn't derived, and for a derived one its number and 1. A derivation reads
-- functions of lower rank alone.
abbrev pub rank_by : ℕ → Kind → ℕ
rank_by g (kind.Derived t e) = g + 1
rank_by g k = 0

abbrev pub rank_of : ℕ → Option Function → ℕ
rank_of g None = 0
rank_of g (Some f) = rank_by g f.kind

abbrev pub rank : List Function → ℕ → ℕ
rank fs g = rank_of g (slice_get fs g)
