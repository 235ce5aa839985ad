-- The machine of a specification with an instance: its states, invocations and levels, and what an invocation answers and
-- changes; for the animator and for what it means to be secure.
use Rattle.std.specs.Prelude.{◌≡◌, ℕ, zero, suc, ◌<◌, IsTrue, List, [], ◌∷◌, ◌++◌, map, Option, Some, None, slice_get, position}
use Rattle.std.specs.List.{All, Contains}
use Rattle.sp_values.specs.declared.value.Ty.{Ty}
use Rattle.sp_values.specs.declared.value.Value.{Value}
use Rattle.sp_values.specs.declared.place.Invocation.{Invocation}
use Rattle.sp_values.specs.Domains.{are_proper, are_values, is_value, proper_values}
use Rattle.sp_core.specs.declared.expr.Expr.{Expr}
use Rattle.sp_core.specs.declared.function.Formal.{Formal}
use Rattle.sp_core.specs.declared.function.Function.{Function}
use Rattle.sp_core.specs.declared.function.Kind.{Kind}
use Rattle.sp_core.specs.declared.function.Kind.TheVariants as kind
use Rattle.sp_core.specs.declared.function.Answer.{Answer}
use Rattle.sp_core.specs.declared.function.Answer.TheVariants as answer
use Rattle.sp_core.specs.Tree.{Tree, tree}
use Rattle.sp_core.specs.Effects.{GuardedChange, GuardedResult, changes_in, results_in, effect_trees}
use Rattle.sp_core.specs.Ranks.{of_rank, rank_count}
use Rattle.sp_core.specs.Values.{World, Store, is_true, level_number, value_of, values_of, nothing, look, value_in, value_over}

-- the lattice and instance, and the functions of the specification
pub record Machine : Type 0 where
  pub world : World
  pub functions : List Function

-- the types of formals
abbrev pub types_of : List Formal → List Ty
types_of formals = map (λ p. p.ty) formals

-- Places, states and levels

-- function g is a primitive V-function of this type, and v are values of its formals' types
pub record IsPlaceOf (m : Machine) (g : ℕ) (v : List Value) (f : Function) (t : Ty) (initial : Expr) : Type 0 where
  pub function : slice_get m.functions g ≡ Some f
  pub primitive : f.kind ≡ kind.Primitive t initial
  pub arguments : IsTrue (are_values m.world.sizes (types_of f.formals) v)

-- a place: a primitive V-function with values of its formals' types, `?` among them
abbrev pub IsPlace : Machine → ℕ → List Value → Type 0
IsPlace m g v = (f : Function) × (t : Ty) × (initial : Expr) × IsPlaceOf m g v f t initial

-- a place, and a value of its function's type
abbrev pub IsEntry : Machine → ℕ → List Value → Value → Type 0
IsEntry m g v x = (f : Function) × (t : Ty) × (initial : Expr) × IsPlaceOf m g v f t initial × IsTrue (is_value m.world.sizes t x)

-- a state has entries at places alone, with values of their types
pub record IsState (m : Machine) (s : Store) : Type 0 where
  pub entries : (g : ℕ) (v : List Value) (x : Value) → s g v ≡ Some x → IsEntry m g v x

-- the initial state has no entry
abbrev pub initial_state : Store
initial_state g v = None

-- the level of a function at values: that of its level term, on which no state bears
abbrev pub level_by : World → Option Function → List Value → ℕ
level_by w None v = 0
level_by w (Some f) v = level_number (value_of w nothing nothing v (tree f.level))

abbrev pub level_of : Machine → ℕ → List Value → ℕ
level_of m g v = level_by m.world (slice_get m.functions g) v

-- Invocations

-- a visible function with proper values of its formals' types
pub record IsInvocationOf (m : Machine) (i : Invocation) (f : Function) : Type 0 where
  pub function : slice_get m.functions i.fun ≡ Some f
  pub visible : IsTrue f.visible
  pub arguments : IsTrue (are_proper m.world.sizes (types_of f.formals) i.args)

abbrev pub IsInvocation : Machine → Invocation → Type 0
IsInvocation m i = (f : Function) × IsInvocationOf m i f

-- What is TRUE

-- the value of an expression in state s, in an environment
abbrev pub value_at : Machine → Store → List Value → Tree → Value
value_at m s = value_in m.world m.functions s

-- the expression is TRUE in state s
abbrev pub IsHeld : Machine → Store → List Value → Tree → Type 0
IsHeld m s x e = IsTrue (is_true (value_at m s x e))

-- the number of the first exception that is TRUE
abbrev pub first_exception : Machine → Store → Invocation → Function → Option ℕ
first_exception m s i f = position (λ e. is_true (value_at m s i.args (tree e.1))) f.exceptions

-- What an invocation changes

-- values for bound variables: a proper one of each type
abbrev pub AreBindings : World → List Ty → List Value → Type 0
AreBindings w [] [] = Unit {0}
AreBindings w [] (c ∷ cs) = ⊥
AreBindings w (t ∷ ts) [] = ⊥
AreBindings w (t ∷ ts) (c ∷ cs) = Contains (proper_values w.sizes t) c × AreBindings w ts cs

-- the change is one of these, and with the values cs of its bound variables all its guards are TRUE in s
pub record IsTrueChange (m : Machine) (s : Store) (i : Invocation) (as' : List GuardedChange) (a : GuardedChange) (cs : List Value) : Type 0 where
  pub of : Contains as' a
  pub bindings : AreBindings m.world a.vars cs
  pub held : All (IsHeld m s (i.args ++ cs)) a.guards

-- the arguments of the place that a true change names, and the value that it gives it, over an old and a new state
abbrev pub target : Machine → Store → Store → Invocation → GuardedChange → List Value → List Value
target m s u i a cs = values_of m.world (look m.world m.functions s) (look m.world m.functions u) (i.args ++ cs) a.args

abbrev pub given : Machine → Store → Store → Invocation → GuardedChange → List Value → Value
given m s u i a cs = value_of m.world (look m.world m.functions s) (look m.world m.functions u) (i.args ++ cs) a.value

-- From state s, over a base u: in t each place that a true change names has the value that the change gives it, and each
-- other place has the entry that it has in u, or none. Two true changes that give one place two values leave no such t.
pub record Changes (m : Machine) (s u : Store) (i : Invocation) (as' : List GuardedChange) (t : Store) : Type 0 where
  pub named : (a : GuardedChange) (cs : List Value) → IsTrueChange m s i as' a cs → t a.fun (target m s u i a cs) ≡ Some (given m s u i a cs)
  pub others : (g : ℕ) (v : List Value) → ((a : GuardedChange) (cs : List Value) → IsTrueChange m s i as' a cs → a.fun ≡ g → target m s u i a cs ≡ v → ⊥) → t g v ≡ u g v

-- Ranks. A change may read new values, so the changes are made rank by rank: u is the state before the changes of rank k,
-- from state s. Before rank 0 it is s. Those of rank k name places and give values over s and the state before rank k,
-- which is the base too.
abbrev pub Stage : Machine → Store → Invocation → List GuardedChange → ℕ → Store → Type 0
Stage m s i as' zero u = u ≡ s
Stage m s i as' (suc k) u = (v : Store) × Stage m s i as' k v × Changes m s v i (of_rank as' k) u

-- t is the state after the changes of all ranks
abbrev pub ChangesByRank : Machine → Store → Invocation → List GuardedChange → Store → Type 0
ChangesByRank m s i as' t = Stage m s i as' (rank_count as') t

-- t is what the changes say of a new state, without ranks: over the old state s and t itself each true change gives the
-- place that it names its value, and each other place has the entry that it has in s. A law says that t is such a state
-- exactly where it is the one after the changes of all ranks.
pub record IsNewState (m : Machine) (s : Store) (i : Invocation) (as' : List GuardedChange) (t : Store) : Type 0 where
  pub named : (a : GuardedChange) (cs : List Value) → IsTrueChange m s i as' a cs → t a.fun (target m s t i a cs) ≡ Some (given m s t i a cs)
  pub others : (g : ℕ) (v : List Value) → ((a : GuardedChange) (cs : List Value) → IsTrueChange m s i as' a cs → a.fun ≡ g → target m s t i a cs ≡ v → ⊥) → t g v ≡ s g v

-- two true changes give one place different values, over the old state s and the state u before their rank
pub record IsConflictOf (m : Machine) (s u : Store) (i : Invocation) (as' : List GuardedChange) (a b : GuardedChange) (cs ds : List Value) : Type 0 where
  pub first : IsTrueChange m s i as' a cs
  pub second : IsTrueChange m s i as' b ds
  pub function : a.fun ≡ b.fun
  pub arguments : target m s u i a cs ≡ target m s u i b ds
  pub values : given m s u i a cs ≡ given m s u i b ds → ⊥

abbrev pub Conflict : Machine → Store → Store → Invocation → List GuardedChange → Type 0
Conflict m s u i as' = (a : GuardedChange) × (b : GuardedChange) × (cs : List Value) × (ds : List Value) × IsConflictOf m s u i as' a b cs ds

-- the changes of a rank conflict, before which is state u
pub record IsRankInConflict (m : Machine) (s : Store) (i : Invocation) (as' : List GuardedChange) (k : ℕ) (u : Store) : Type 0 where
  pub rank : k < rank_count as'
  pub before : Stage m s i as' k u
  pub conflict : Conflict m s u i (of_rank as' k)

abbrev pub ConflictByRank : Machine → Store → Invocation → List GuardedChange → Type 0
ConflictByRank m s i as' = (k : ℕ) × (u : Store) × IsRankInConflict m s i as' k u

-- What an invocation answers, and its step

-- v is the value, over the old state s and the new state u, of the one result, number k, whose guards are TRUE in s
pub record IsResultAt (m : Machine) (s u : Store) (i : Invocation) (rs : List GuardedResult) (v : Value) (k : ℕ) (r : GuardedResult) : Type 0 where
  pub there : slice_get rs k ≡ Some r
  pub held : All (IsHeld m s i.args) r.guards
  pub only : (j : ℕ) (q : GuardedResult) → slice_get rs j ≡ Some q → All (IsHeld m s i.args) q.guards → j ≡ k
  pub value : v ≡ value_over m.world m.functions s u i.args r.value

abbrev pub IsResult : Machine → Store → Store → Invocation → List GuardedResult → Value → Type 0
IsResult m s u i rs v = (k : ℕ) × (r : GuardedResult) × IsResultAt m s u i rs v k r

-- the answer where no exception is true: a V-function's value, Done for an O-function, an OV-function's result
abbrev pub Replies : Machine → Store → Store → Invocation → Kind → Answer → Type 0
Replies m s u i (kind.Primitive t e) a = a ≡ answer.Value (look m.world m.functions s i.fun i.args)
Replies m s u i (kind.Derived t e) a = a ≡ answer.Value (look m.world m.functions s i.fun i.args)
Replies m s u i (kind.Operation es) a = a ≡ answer.Done
Replies m s u i (kind.Both t es) a = (v : Value) × IsResult m s u i (results_in (effect_trees (kind.Both t es))) v × (a ≡ answer.Value v)

-- The answer and the new state, by the first exception that is TRUE: that exception, and the old state. Where none is, all
-- changes are made, rank by rank; a V-function has none. The answer is then that over the old and the new state.
abbrev pub Outcome : Machine → Store → Invocation → Function → Option ℕ → Answer → Store → Type 0
Outcome m s i f (Some n) a t = (a ≡ answer.Exception n) × (t ≡ s)
Outcome m s i f None a t = ChangesByRank m s i (changes_in (effect_trees f.kind)) t × Replies m s t i f.kind a

-- the step relation
pub record StepOf (m : Machine) (s : Store) (i : Invocation) (a : Answer) (t : Store) (f : Function) : Type 0 where
  pub function : slice_get m.functions i.fun ≡ Some f
  pub outcome : Outcome m s i f (first_exception m s i f) a t

abbrev pub Step : Machine → Store → Invocation → Answer → Store → Type 0
Step m s i a t = (f : Function) × StepOf m s i a t f

-- no exception is TRUE, and the changes of a rank conflict; such an invocation has no step
pub record MeetsConflictOf (m : Machine) (s : Store) (i : Invocation) (f : Function) : Type 0 where
  pub function : slice_get m.functions i.fun ≡ Some f
  pub plain : first_exception m s i f ≡ None
  pub conflict : ConflictByRank m s i (changes_in (effect_trees f.kind))

abbrev pub MeetsConflict : Machine → Store → Invocation → Type 0
MeetsConflict m s i = (f : Function) × MeetsConflictOf m s i f

-- the runs of a step relation: its steps for a list of invocations, one after the other
abbrev pub RunBy : (Store → Invocation → Answer → Store → Type 0) → Store → List Invocation → List Answer → Store → Type 0
RunBy Steps s [] [] t = t ≡ s
RunBy Steps s (i ∷ is') (a ∷ as') t = (u : Store) × Steps s i a u × RunBy Steps u is' as' t
RunBy Steps s [] (a ∷ as') t = ⊥
RunBy Steps s (i ∷ is') [] t = ⊥

-- the run relation
abbrev pub Run : Machine → Store → List Invocation → List Answer → Store → Type 0
Run m = RunBy (Step m)
