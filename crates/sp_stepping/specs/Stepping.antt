-- What a step in memory answers: the step of the machine, where none of the states that it goes through has too many
-- entries, or else why there is no such step. For the step and for the runs above it.
use Rattle.std.specs.Prelude.{◌≡◌, ℕ, ◌<◌, ◌≤◌, List, None, Some, slice_get}
use Rattle.sp_values.specs.declared.value.Value.{Value}
use Rattle.sp_values.specs.declared.place.Place.{Place}
use Rattle.sp_values.specs.declared.place.Invocation.{Invocation}
use Rattle.sp_core.specs.declared.function.Answer.{Answer}
use Rattle.sp_core.specs.declared.function.Function.{Function}
use Rattle.sp_core.specs.Effects.{GuardedChange, changes_in, effect_trees}
use Rattle.sp_core.specs.Machine.{Machine, Stage, StepOf, first_exception}
use Rattle.sp_core.specs.Ranks.{of_rank, rank_count}
use Rattle.sp_core.specs.Values.{Store}
use Rattle.sp_listing.specs.Listing.{IsFirstConflict, IsOverfull, IsWithin}
use Rattle.sp_listing.specs.True.{true_entries}
use Rattle.sp_stepping.specs.declared.fault.StepFault.{StepFault}
use Rattle.sp_stepping.specs.declared.fault.StepFault.TheVariants as fault

-- the changes of a function, in text order
abbrev pub changes_of : Function → List GuardedChange
changes_of f = changes_in (effect_trees f.kind)

-- no state before a rank up to k has more entries than a state in memory may have
abbrev pub AreWithin : Machine → Store → Invocation → List GuardedChange → ℕ → Type 0
AreWithin m s i as' k = (j : ℕ) (u : Store) → j ≤ k → Stage m s i as' j u → IsWithin u

-- the step, where no state that it goes through has too many entries
pub record StepsWithinOf (m : Machine) (s : Store) (i : Invocation) (a : Answer) (t : Store) (f : Function) : Type 0 where
  pub step : StepOf m s i a t f
  pub within : first_exception m s i f ≡ None → AreWithin m s i (changes_of f) (rank_count (changes_of f))

abbrev pub StepsWithin : Machine → Store → Invocation → Answer → Store → Type 0
StepsWithin m s i a t = (f : Function) × StepsWithinOf m s i a t f

-- Before rank k is state u, no state so far has too many entries, and of the true changes of rank k, in text order and their
-- bindings in lexicographic order, the first that names the place of an earlier one with another value names place p: the
-- earlier one gives it x, and it gives it y.
pub record IsConflictInRank (m : Machine) (s : Store) (i : Invocation) (as' : List GuardedChange) (p : Place) (x y : Value) (k : ℕ) (u : Store) : Type 0 where
  pub rank : k < rank_count as'
  pub before : Stage m s i as' k u
  pub within : AreWithin m s i as' k
  pub conflict : IsFirstConflict (true_entries m s u i (of_rank as' k)) p x y

-- the state u before rank k, or after the last rank, has too many entries
pub record IsFullBefore (m : Machine) (s : Store) (i : Invocation) (as' : List GuardedChange) (k : ℕ) (u : Store) : Type 0 where
  pub rank : k ≤ rank_count as'
  pub before : Stage m s i as' k u
  pub full : IsOverfull u

-- why the changes aren't made
abbrev pub IsChangeFault : Machine → Store → Invocation → List GuardedChange → StepFault → Type 0
IsChangeFault m s i as' (fault.Conflict p x y) = (k : ℕ) × (u : Store) × IsConflictInRank m s i as' p x y k u
IsChangeFault m s i as' fault.StateFull = (k : ℕ) × (u : Store) × IsFullBefore m s i as' k u
IsChangeFault m s i as' fault.Memory = Unit {0}

-- no exception is TRUE, and the changes of the invocation's function aren't made
pub record IsStepFaultOf (m : Machine) (s : Store) (i : Invocation) (e : StepFault) (f : Function) : Type 0 where
  pub function : slice_get m.functions i.fun ≡ Some f
  pub plain : first_exception m s i f ≡ None
  pub changes : IsChangeFault m s i (changes_of f) e

abbrev pub IsStepFault : Machine → Store → Invocation → StepFault → Type 0
IsStepFault m s i e = (f : Function) × IsStepFaultOf m s i e f
