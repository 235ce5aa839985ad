-- What it means that a specification is secure: each list of invocations has exactly one run, and invocations whose level
-- isn't at or below a level change nothing that can be seen there.
use Rattle.std.specs.Prelude.{◌≡◌, ℕ, ◌<◌, Bool, true, false, IsTrue, if◌then◌else◌, List, [], ◌∷◌}
use Rattle.std.specs.List.{All}
use Rattle.sp_values.specs.declared.value.Value.{Value}
use Rattle.sp_values.specs.declared.place.Invocation.{Invocation}
use Rattle.sp_core.specs.declared.function.Answer.{Answer}
use Rattle.sp_core.specs.Values.{Store, look}
use Rattle.sp_core.specs.Machine.{Machine, IsPlace, IsState, IsInvocation, RunBy, Step, level_of}

-- whether the invocation's level is at or below l
abbrev pub is_seen : Machine → ℕ → Invocation → Bool
is_seen m l i = m.world.below (level_of m i.fun i.args) l

-- purging: the invocations whose level is at or below l, in order
abbrev pub purge : Machine → ℕ → List Invocation → List Invocation
purge m l [] = []
purge m l (i ∷ is') = if is_seen m l i then i ∷ purge m l is' else purge m l is'

-- the answers at the positions of these invocations, in order
abbrev pub seen : Machine → ℕ → List Invocation → List Answer → List Answer
seen m l (i ∷ is') (a ∷ as') = if is_seen m l i then a ∷ seen m l is' as' else seen m l is' as'
seen m l is' as' = []

-- a place whose level is at or below l
pub record IsLow (m : Machine) (l g : ℕ) (v : List Value) : Type 0 where
  pub place : IsPlace m g v
  pub below : IsTrue (m.world.below (level_of m g v) l)

-- two states are alike at l where they look the same at every place whose level is at or below l
pub record Alike (m : Machine) (l : ℕ) (s t : Store) : Type 0 where
  pub same : (g : ℕ) (v : List Value) → IsLow m l g v → look m.world m.functions s g v ≡ look m.world m.functions t g v

-- from every state each list of invocations has exactly one run of the step relation: its answers and its final state are
-- determined
pub record HasOneRunBy (m : Machine) (Steps : Store → Invocation → Answer → Store → Type 0) : Type 0 where
  pub run : (s : Store) (is' : List Invocation) → IsState m s → All (IsInvocation m) is' → (as' : List Answer) × (t : Store) × RunBy Steps s is' as' t
  pub one : (s : Store) (is' : List Invocation) → IsState m s → All (IsInvocation m) is' →
      (as' bs : List Answer) (t u : Store) → RunBy Steps s is' as' t → RunBy Steps s is' bs u → (as' ≡ bs) × (t ≡ u)

-- for every level, all states that are alike there, and every list: the run of the purged list from the one state answers
-- what is seen of the run of the whole list from the other, and the final states are alike
pub record HidesAboveBy (m : Machine) (Steps : Store → Invocation → Answer → Store → Type 0) : Type 0 where
  pub hides : (l : ℕ) (s t : Store) (is' : List Invocation) → l < m.world.sizes.levels → IsState m s → IsState m t → Alike m l s t → All (IsInvocation m) is' →
      (as' bs : List Answer) (s' t' : Store) → RunBy Steps s is' as' s' → RunBy Steps t (purge m l is') bs t' → (bs ≡ seen m l is' as') × Alike m l s' t'

-- a step relation is secure on the machine's states and invocations
pub record IsSecureBy (m : Machine) (Steps : Store → Invocation → Answer → Store → Type 0) : Type 0 where
  pub one_run : HasOneRunBy m Steps
  pub hides_above : HidesAboveBy m Steps

-- the same of a machine's own step
abbrev pub HasOneRun : Machine → Type 0
HasOneRun m = HasOneRunBy m (Step m)

abbrev pub HidesAbove : Machine → Type 0
HidesAbove m = HidesAboveBy m (Step m)

-- a machine is secure: its step is
abbrev pub IsSecureMachine : Machine → Type 0
IsSecureMachine m = IsSecureBy m (Step m)

-- What a step relation does in single steps that makes lists of them secure: it leads from states to states and has one
-- outcome; a step above a level leaves the state alike there, and one at or below it answers the same from alike states and
-- leads to alike ones.
pub record IsSecureInSteps (m : Machine) (Steps : Store → Invocation → Answer → Store → Type 0) : Type 0 where
  pub typed : (s t : Store) (i : Invocation) (a : Answer) → IsState m s → IsInvocation m i → Steps s i a t → IsState m t
  pub some : (s : Store) (i : Invocation) → IsState m s → IsInvocation m i → (a : Answer) × (t : Store) × Steps s i a t
  pub one : (s t u : Store) (i : Invocation) (a b : Answer) → IsState m s → IsInvocation m i → Steps s i a t → Steps s i b u → (a ≡ b) × (t ≡ u)
  pub quiet : (l : ℕ) (s t : Store) (i : Invocation) (a : Answer) → l < m.world.sizes.levels → IsState m s → IsInvocation m i → is_seen m l i ≡ false → Steps s i a t → Alike m l s t
  pub alike : (l : ℕ) (s t s' t' : Store) (i : Invocation) (a b : Answer) → l < m.world.sizes.levels → IsState m s → IsState m t → IsInvocation m i → is_seen m l i ≡ true → Alike m l s t →
      Steps s i a s' → Steps t i b t' → (b ≡ a) × Alike m l s' t'
