-- What the parts of a step ask of one another: an invocation of a function with effects, in a state, and the changes so
-- far.
use Rattle.std.specs.Prelude.{◌≡◌, ℕ, ◌+◌, ◌≤◌, Bool, IsTrue, List, [], ◌∷◌, Option, Some, None, if◌then◌else◌, length, map}
use Rattle.std.specs.List.{All, list_all}
use Rattle.sp_text.specs.declared.limits.TheConstants.{MOST_ARGUMENTS, MOST_CHANGED_PLACES}
use Rattle.sp_text.specs.declared.name.Name.{Name}
use Rattle.sp_values.specs.declared.value.Ty.{Ty}
use Rattle.sp_values.specs.declared.value.Ty.TheVariants as ty
use Rattle.sp_values.specs.declared.value.Value.{Value}
use Rattle.sp_values.specs.declared.place.Invocation.{Invocation}
use Rattle.sp_values.specs.Domains.{are_values}
use Rattle.sp_core.specs.declared.expr.Expr.{Expr}
use Rattle.sp_core.specs.declared.function.Effect.{Effect}
use Rattle.sp_core.specs.declared.function.Function.{Function}
use Rattle.sp_core.specs.declared.state.Entry.{Entry}
use Rattle.sp_core.specs.Effects.{EffectTrees, GuardedChange, GuardedResult, changes_in, effect_tree, effect_trees, effect_trees_of}
use Rattle.sp_core.specs.Instances.{InstanceParts, filling_of, machine_of, sizes_of}
use Rattle.sp_core.specs.Machine.{ChangesByRank, IsInvocationOf, Machine, Stage, value_at}
use Rattle.sp_core.specs.Parts.{Parts, signature}
use Rattle.sp_core.specs.Ranks.{change_rank, rank_count}
use Rattle.sp_core.specs.States.{AreApart, entry_of}
use Rattle.sp_core.specs.Tree.{tree}
use Rattle.sp_core.specs.Values.{Store, is_true, value_over}
use Rattle.sp_core.specs.WellFormed.{IsExpression, IsWellFormed}
use Rattle.sp_eval.specs.Conditions.{IsGiven}
use Rattle.sp_eval.specs.Overlays.{overlay}
use Rattle.sp_listing.specs.Listing.{fresh}
use Rattle.sp_stepping.specs.Stepping.{AreWithin}

-- conditions over values, as the exceptions of a function over its arguments
pub record AreConditionsFor (p : Parts) (i : InstanceParts) (x : List Value) (es : List (Name × Expr)) (xs : List Ty) : Type 0 where
  pub values : IsTrue (are_values (sizes_of p (filling_of i)) xs x)
  pub few : length x ≤ MOST_ARGUMENTS
  pub each : All (λ e. IsExpression (signature p) xs (tree e.1) ty.Boolean) es

abbrev pub AreConditions : Parts → InstanceParts → List Value → List (Name × Expr) → Type 0
AreConditions p i x es = (xs : List Ty) × AreConditionsFor p i x es xs

-- An invocation of function f in a state, with the effects of f. The state has no two entries of one place, and may have
-- so many more: the room.
pub record IsCallOf (p : Parts) (inst : InstanceParts) (entries : List Entry) (spare : ℕ) (i : Invocation) (es : List Effect) (f : Function) : Type 0 where
  pub well_formed : IsWellFormed p
  pub given : IsGiven p inst entries
  pub apart : AreApart entries
  pub room : spare + length entries ≡ MOST_CHANGED_PLACES
  pub call : IsInvocationOf (machine_of p (filling_of inst)) i f
  pub effects : effect_trees f.kind ≡ effect_trees_of (map effect_tree es)

abbrev pub IsCall : Parts → InstanceParts → List Entry → ℕ → Invocation → List Effect → Type 0
IsCall p inst entries spare i es = (f : Function) × IsCallOf p inst entries spare i es f

-- the same, with the ranks of the changes
pub record Moment : Type 0 where
  pub parts : Parts
  pub instance : InstanceParts
  pub entries : List Entry
  pub room : ℕ
  pub invocation : Invocation
  pub effects : List Effect
  pub ranks : List ℕ

abbrev pub machine : Moment → Machine
machine n = machine_of n.parts (filling_of n.instance)

abbrev pub state : Moment → Store
state n = entry_of n.entries

abbrev pub trees : Moment → EffectTrees
trees n = effect_trees_of (map effect_tree n.effects)

abbrev pub changes : Moment → List GuardedChange
changes n = changes_in (trees n)

pub record IsMoment (n : Moment) : Type 0 where
  pub call : IsCall n.parts n.instance n.entries n.room n.invocation n.effects
  pub ranks : n.ranks ≡ map (λ a. change_rank (changes n) a.fun) (changes n)

-- the state with changes laid over it
abbrev pub laid : Moment → List Entry → Store
laid n made = overlay (entry_of made) (state n)

-- the changes of the ranks below k are made, and fit into the state
pub record AreMade (n : Moment) (k : ℕ) (made : List Entry) : Type 0 where
  pub stage : Stage (machine n) (state n) n.invocation (changes n) k (laid n made)
  pub within : AreWithin (machine n) (state n) n.invocation (changes n) k
  pub few : fresh made (state n) ≤ n.room

-- the changes of effects lead from state s to state t, through none with too many entries
pub record AreChangedWithin (m : Machine) (s : Store) (i : Invocation) (as' : List GuardedChange) (t : Store) : Type 0 where
  pub made : ChangesByRank m s i as' t
  pub within : AreWithin m s i as' (rank_count as')

-- whether all guards of a result are TRUE in state s, in environment x
abbrev pub is_held : Machine → Store → List Value → GuardedResult → Bool
is_held m s x r = list_all (λ g. is_true (value_at m s x g)) r.guards

-- the value of the first result whose guards are TRUE
abbrev pub first_result : Machine → Store → Store → List Value → List GuardedResult → Option Value
first_result m s u x [] = None
first_result m s u x (r ∷ rs) = if is_held m s x r then Some (value_over m.world m.functions s u x r.value) else first_result m s u x rs
