-- What the comparison of a run with its purged run answers: whether each invocation whose level is at or below a level
-- answers the same in both, or which is the first that doesn't. For the comparison and for those that print it.
use Rattle.std.specs.Prelude.{◌≡◌, ℕ, ◌+◌, ◌⊎◌, Bool, true, false, List, [], ◌∷◌, ◌++◌, Result, Ok, Err, Some, slice_get, take, length}
use Rattle.sp_values.specs.declared.place.Invocation.{Invocation}
use Rattle.sp_core.specs.declared.function.Answer.{Answer}
use Rattle.sp_core.specs.Machine.{Machine}
use Rattle.sp_core.specs.Security.{is_seen, purge, seen}
use Rattle.sp_core.specs.Values.{Store}
use Rattle.sp_stepping.specs.Stepping.{IsStepFault, StepsWithin}
use Rattle.sp_stepping.specs.declared.fault.StepFault.{StepFault}
use Rattle.sp_stepping.specs.declared.fault.StepFault.TheVariants as fault
use Rattle.sp_animator.specs.Runs.{IsRefused, RunsWithin}
use Rattle.sp_animator.specs.declared.comparing.Compared.{Compared}
use Rattle.sp_animator.specs.declared.comparing.Compared.TheVariants as compared
use Rattle.sp_animator.specs.declared.comparing.CompareFault.{CompareFault}

-- Two lists of answers: of the whole list, and of the list purged at level l

-- how many of the first n invocations are kept
abbrev pub kept_before : Machine → ℕ → List Invocation → ℕ → ℕ
kept_before m l list n = length (purge m l (take n list))

-- invocation i, number n, is kept and answers x in the whole run and y, another answer, in the purged one; each kept one
-- before it answers the same in both
pub record IsDifferenceAt (m : Machine) (l : ℕ) (list : List Invocation) (as' bs : List Answer) (n : ℕ) (x y : Answer) (i : Invocation) : Type 0 where
  pub there : slice_get list n ≡ Some i
  pub kept : is_seen m l i ≡ true
  pub whole : slice_get as' n ≡ Some x
  pub purged : slice_get bs (kept_before m l list n) ≡ Some y
  pub differ : x ≡ y → ⊥
  pub earlier : seen m l (take n list) (take n as') ≡ take (kept_before m l list n) bs

-- all kept invocations answer the same, and how many they are; or the first difference
abbrev pub IsComparison : Machine → ℕ → List Invocation → List Answer → List Answer → Compared → Type 0
IsComparison m l list as' bs (compared.Same n) = (n ≡ length (purge m l list)) × (seen m l list as' ≡ bs)
IsComparison m l list as' bs (compared.Differs n x y) = (i : Invocation) × IsDifferenceAt m l list as' bs n x y i

-- The two runs

-- the run of a list from state s ends, with these answers
abbrev pub Ends : Machine → Store → List Invocation → List Answer → Type 0
Ends m s list as' = (t : Store) × RunsWithin m s list as' t

-- both runs from state s end, and their answers are compared
pub record ComparesBy (m : Machine) (s : Store) (l : ℕ) (list : List Invocation) (c : Compared) (as' bs : List Answer) : Type 0 where
  pub whole : Ends m s list as'
  pub purged : Ends m s (purge m l list) bs
  pub comparison : IsComparison m l list as' bs c

abbrev pub Compares : Machine → Store → ℕ → List Invocation → Compared → Type 0
Compares m s l list c = (as' : List Answer) × (bs : List Answer) × ComparesBy m s l list c as' bs

-- the whole run breaks off at invocation i, number n, with this fault
pub record BreaksWholeAt (m : Machine) (s : Store) (list : List Invocation) (n : ℕ) (e : StepFault) (as' : List Answer) (t : Store) (i : Invocation) : Type 0 where
  pub run : RunsWithin m s (take n list) as' t
  pub refused : IsRefused m t list n e i

abbrev pub BreaksWhole : Machine → Store → List Invocation → ℕ → StepFault → Type 0
BreaksWhole m s list n e = (as' : List Answer) × (t : Store) × (i : Invocation) × BreaksWholeAt m s list n e as' t i

-- the purged run breaks off at invocation i, number n of the whole list
pub record BreaksPurgedAt (m : Machine) (s : Store) (l : ℕ) (list : List Invocation) (n : ℕ) (e : StepFault) (as' : List Answer) (t : Store) (i : Invocation) : Type 0 where
  pub run : RunsWithin m s (purge m l (take n list)) as' t
  pub kept : is_seen m l i ≡ true
  pub refused : IsRefused m t list n e i

abbrev pub BreaksPurged : Machine → Store → ℕ → List Invocation → ℕ → StepFault → Type 0
BreaksPurged m s l list n e = (as' : List Answer) × (t : Store) × (i : Invocation) × BreaksPurgedAt m s l list n e as' t i

-- the fault is that of the whole run, or want of memory
pub record IsWholeFault (m : Machine) (s : Store) (list : List Invocation) (f : CompareFault) : Type 0 where
  pub whole : f.purged ≡ false
  pub why : (f.fault ≡ fault.Memory) ⊎ BreaksWhole m s list f.at f.fault

-- the fault is that of the purged run, or want of memory
pub record IsKeptFault (m : Machine) (s : Store) (l : ℕ) (list : List Invocation) (f : CompareFault) : Type 0 where
  pub purged : f.purged ≡ true
  pub why : (f.fault ≡ fault.Memory) ⊎ BreaksPurged m s l list f.at f.fault

-- the fault is that of the whole run; or that of the purged run, where the whole one ends
abbrev pub IsCompareFault : Machine → Store → ℕ → List Invocation → CompareFault → Type 0
IsCompareFault m s l list f = IsWholeFault m s list f ⊎ (((as' : List Answer) × Ends m s list as') × IsKeptFault m s l list f)

-- the invocation is stepped from state s to t and its answer appended, where it is kept
abbrev pub IsAnsweredIf : Machine → Store → Store → Invocation → Bool → List Answer → List Answer → Type 0
IsAnsweredIf m s t i true old new = (a : Answer) × StepsWithin m s i a t × (new ≡ old ++ a ∷ [])
IsAnsweredIf m s t i false old new = (t ≡ s) × (new ≡ old)

-- the fault of an invocation that is kept, or want of memory
abbrev pub IsKeptRefused : Machine → Store → Invocation → Bool → StepFault → Type 0
IsKeptRefused m s i b e = (e ≡ fault.Memory) ⊎ ((b ≡ true) × IsStepFault m s i e)

-- after k answers of the purged list: this answer of the whole one is the next of them too, where it is kept, and then there
-- are n
abbrev pub IsSameNext : Bool → Answer → List Answer → ℕ → ℕ → Type 0
IsSameNext true x purged k n = (n ≡ k + 1) × (slice_get purged k ≡ Some x)
IsSameNext false x purged k n = n ≡ k

-- it is kept, and the next of them is y, another answer
abbrev pub IsOtherNext : Bool → Answer → List Answer → ℕ → Answer → Type 0
IsOtherNext b x purged k y = (b ≡ true) × (slice_get purged k ≡ Some y) × (x ≡ y → ⊥)

-- What a secure specification leaves

-- no conflict
abbrev pub IsNoConflict : StepFault → Type 0
IsNoConflict (fault.Conflict p x y) = ⊥
IsNoConflict fault.StateFull = Unit {0}
IsNoConflict fault.Memory = Unit {0}

-- no difference and no conflict
abbrev pub IsSameOrFull : Result Compared CompareFault → Type 0
IsSameOrFull (Ok (compared.Same n)) = Unit {0}
IsSameOrFull (Ok (compared.Differs n x y)) = ⊥
IsSameOrFull (Err f) = IsNoConflict f.fault
