-- When information flows upward alone in a machine: what each part of a function may read, what an invocation may change,
-- and that changes of one place agree. It speaks of states and levels and knows no formulas; for what formulas that hold
-- give, and for the theorem that such a machine is secure.
use Rattle.std.specs.Prelude.{◌≡◌, ℕ, ◌<◌, IsTrue, List, [], ◌∷◌, ◌++◌, map, Some, slice_get}
use Rattle.std.specs.List.{All, Contains}
use Rattle.sp_values.specs.declared.value.Ty.{Ty}
use Rattle.sp_values.specs.declared.value.Value.{Value}
use Rattle.sp_values.specs.declared.place.Invocation.{Invocation}
use Rattle.sp_values.specs.Domains.{are_values}
use Rattle.sp_core.specs.declared.expr.Expr.{Expr}
use Rattle.sp_core.specs.declared.function.Function.{Function}
use Rattle.sp_core.specs.declared.function.Kind.TheVariants as kind
use Rattle.sp_core.specs.Tree.{Tree, Trees, Not, tree}
use Rattle.sp_core.specs.Effects.{GuardedChange, GuardedResult, changes_in, effect_trees, results_in}
use Rattle.sp_core.specs.Values.{Store, look}
use Rattle.sp_core.specs.Machine.{AreBindings, IsHeld, IsInvocationOf, IsState, Machine, given, level_of, target, types_of}
use Rattle.sp_core.specs.Reading.{DependOn, DependsOn}

-- What is read

-- function g at these values is at or below level l
abbrev pub IsUnder : Machine → ℕ → ℕ → List Value → Type 0
IsUnder m l g v = IsTrue (m.world.below (level_of m g v) l)

-- Over an old state s and a new state u, each V-function on which the value of the expression depends is at or below l, at
-- the values of its arguments.
abbrev pub ReadsUnder : Machine → Store → Store → List Value → ℕ → Tree → Type 0
ReadsUnder m s u x l e = DependsOn m.world (look m.world m.functions s) (look m.world m.functions u) (IsUnder m l) x e

-- the same of each of some expressions
abbrev pub ReadUnder : Machine → Store → Store → List Value → ℕ → Trees → Type 0
ReadUnder m s u x l ds = DependOn m.world (look m.world m.functions s) (look m.world m.functions u) (IsUnder m l) x ds

-- Conditions are tried in order, in state s, up to the first that isn't TRUE. Each that is tried reads at or below l.
abbrev pub TestsUnder : Machine → Store → List Value → ℕ → List Tree → Type 0
TestsUnder m s x l [] = Unit {0}
TestsUnder m s x l (c ∷ cs) = ReadsUnder m s s x l c × (IsHeld m s x c → TestsUnder m s x l cs)

-- what is tried before anything else: that no exception is TRUE, one after the other
abbrev pub denials : Function → List Tree
denials f = map (λ e. Not (tree e.1)) f.exceptions

-- What an invocation does

-- the level of the invocation
abbrev pub call_level : Machine → Invocation → ℕ
call_level m i = level_of m i.fun i.args

-- the level of the place that a change names, with the values cs of its bound variables
abbrev pub place_level : Machine → Store → Store → Invocation → GuardedChange → List Value → ℕ
place_level m s u i a cs = level_of m a.fun (target m s u i a cs)

-- A change, with values of its bound variables:
pub record ChangeFlows (m : Machine) (s u : Store) (i : Invocation) (a : GuardedChange) (cs : List Value) : Type 0 where
  -- which place it names depends on what the invocation may read;
  pub target : ReadUnder m s u (i.args ++ cs) (call_level m i) a.args
  -- whether it is made depends on what the place may hold,
  pub guards : TestsUnder m s (i.args ++ cs) (place_level m s u i a cs) a.guards
  -- and so does the value that it gives, where it is made;
  pub value : All (IsHeld m s (i.args ++ cs)) a.guards → ReadsUnder m s u (i.args ++ cs) (place_level m s u i a cs) a.value
  -- and where it is made, the invocation is at or below the place.
  pub upward : All (IsHeld m s (i.args ++ cs)) a.guards → IsTrue (m.world.below (call_level m i) (place_level m s u i a cs))

-- A result:
pub record ResultFlows (m : Machine) (s u : Store) (i : Invocation) (r : GuardedResult) : Type 0 where
  -- whether it is the one depends on what the invocation may read,
  pub guards : TestsUnder m s i.args (call_level m i) r.guards
  -- and so does its value, where it is the one.
  pub value : All (IsHeld m s i.args) r.guards → ReadsUnder m s u i.args (call_level m i) r.value

-- two changes that are both made and name one place give it one value
abbrev pub Agree : Machine → Store → Store → Invocation → GuardedChange → GuardedChange → Type 0
Agree m s u i a b =
    (cs ds : List Value) → AreBindings m.world a.vars cs → AreBindings m.world b.vars ds → All (IsHeld m s (i.args ++ cs)) a.guards → All (IsHeld m s (i.args ++ ds)) b.guards →
    a.fun ≡ b.fun → target m s u i a cs ≡ target m s u i b ds → given m s u i a cs ≡ given m s u i b ds

-- An invocation of f from s that meets no exception, where u is a new state:
pub record CallFlows (m : Machine) (s u : Store) (i : Invocation) (f : Function) : Type 0 where
  -- each change of f flows upward, for all values of its bound variables;
  pub changes : (a : GuardedChange) (cs : List Value) → Contains (changes_in (effect_trees f.kind)) a → AreBindings m.world a.vars cs → ChangeFlows m s u i a cs
  -- each result of f flows upward;
  pub results : (r : GuardedResult) → Contains (results_in (effect_trees f.kind)) r → ResultFlows m s u i r
  -- and each change of f agrees with each that stands behind it.
  pub agreement : (j k : ℕ) (a b : GuardedChange) → j < k → slice_get (changes_in (effect_trees f.kind)) j ≡ Some a → slice_get (changes_in (effect_trees f.kind)) k ≡ Some b → Agree m s u i a b

-- Each derivation reads at or below its own function, from each state, at values of its formals' types.
abbrev pub DerivationsFlow : Machine → Type 0
DerivationsFlow m =
    (s : Store) → IsState m s → (g : ℕ) (f : Function) (t : Ty) (e : Expr) (v : List Value) → slice_get m.functions g ≡ Some f → f.kind ≡ kind.Derived t e →
    IsTrue (are_values m.world.sizes (types_of f.formals) v) → ReadsUnder m s s v (level_of m g v) (tree e)

-- Information flows upward alone, from each state s, with any state u in the place of the new one:
pub record FlowsUpward (m : Machine) : Type 0 where
  -- a derived function reads at or below itself;
  pub derivations : DerivationsFlow m
  -- which exception an invocation meets depends on what the invocation may read;
  pub exceptions : (s : Store) (i : Invocation) (f : Function) → IsState m s → IsInvocationOf m i f → TestsUnder m s i.args (call_level m i) (denials f)
  -- and one that meets none flows upward.
  pub calls : (s u : Store) (i : Invocation) (f : Function) → IsState m s → IsState m u → IsInvocationOf m i f → All (IsHeld m s i.args) (denials f) → CallFlows m s u i f
