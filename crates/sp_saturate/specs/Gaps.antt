-- What a round over all rules finds: a step that the facts lack, or that there is none.
use Rattle.std.specs.Prelude.{◌≡◌, ℕ, ◌<◌, ◌≤◌, Bool, true, false, Option, MatchOption}
use Rattle.sp_values.specs.declared.value.Value.TheVariants.{Level}
use Rattle.sp_values.specs.declared.value.Op.TheVariants.{Lub}
use Rattle.sp_pool.specs.declared.node.Head.{Head}
use Rattle.sp_pool.specs.declared.node.Head.TheVariants.{Const, Two}
use Rattle.sp_rules.specs.Terms.{count, arg, node_at, is_arithmetic}
use Rattle.sp_rules.specs.declared.fact.Fact.{Fact}
use Rattle.sp_rules.specs.declared.fact.Fact.TheVariants.{Eq, Le}
use Rattle.sp_rules.specs.declared.fact.Step.{Step}
use Rattle.sp_saturate.specs.Steps.{on}
use Rattle.sp_saturate.specs.Trail.{Found, is_new}

abbrev pub simple : Fact → ℕ → ℕ → Step
simple f r p = record { fact = f; rule = r; p = p; q = 0 }

-- a new step, or where there is none, P
abbrev pub IsGapOr : Found → Type 0 → Option Step → Type 0
IsGapOr t P o = MatchOption o P (λ s. is_new t s ≡ true)

-- the step isn't new
abbrev pub IsOld : Found → Step → Type 0
IsOld t s = is_new t s ≡ false

-- the steps from the equality of i and p: the other way round, and from i through p
pub record EqualIsOld (t : Found) (i p : ℕ) : Type 0 where
  pub k2 : IsOld t (simple (Eq p i) 2 0)
  pub k3 : (j : ℕ) → j < count t.terms → IsOld t (simple (Eq i j) 3 p)

-- the steps from the order of i and p: to their equality, and from i through p
pub record BelowIsOld (t : Found) (i p : ℕ) : Type 0 where
  pub k10 : IsOld t (simple (Eq i p) 10 0)
  pub k8 : (j : ℕ) → j < count t.terms → IsOld t (simple (Le i j) 8 p)

-- the steps to the order of i and j by the form of i
pub record UpperIsOld (t : Found) (i j : ℕ) : Type 0 where
  pub k7 : IsOld t (simple (Le i j) 7 0)
  pub k9 : IsOld t (simple (Le i j) 9 0)
  pub k11 : IsOld t (simple (Le i j) 11 0)
  pub k12 : IsOld t (simple (Le i j) 12 0)
  pub k14 : IsOld t (simple (Le i j) 14 0)

-- the constant of a level, or LUB
abbrev pub is_low_head : Head → Bool
is_low_head (Const (Level x)) = true
is_low_head (Two Lub) = true
is_low_head _ = false

-- the steps to the equality of i and itself, and to those of i as x = y, x <= y or IF
pub record FormIsOld (t : Found) (i : ℕ) : Type 0 where
  pub k1 : IsOld t (simple (Eq i i) 1 0)
  pub k5 : IsOld t (simple (Eq (arg t.terms i 0) (arg t.terms i 1)) 5 i)
  pub k6 : IsOld t (simple (Eq i 0) 6 0)
  pub k18 : IsOld t (simple (Eq i 0) 18 0)
  pub k22_then : IsOld t (simple (Eq i (arg t.terms i 1)) 22 0)
  pub k22_else : IsOld t (simple (Eq i (arg t.terms i 2)) 22 0)

-- the steps to the order of i as x <= y, LUB or GLB
pub record BoundsAreOld (t : Found) (i : ℕ) : Type 0 where
  pub k13_first : IsOld t (simple (Le (arg t.terms i 0) i) 13 0)
  pub k13_second : IsOld t (simple (Le (arg t.terms i 1) i) 13 0)
  pub k15_first : IsOld t (simple (Le i (arg t.terms i 0)) 15 0)
  pub k15_second : IsOld t (simple (Le i (arg t.terms i 1)) 15 0)
  pub k17 : IsOld t (simple (Le (arg t.terms i 0) (arg t.terms i 1)) 17 i)

-- the steps of i as NOT, AND or OR, by the rule of this number, to the truth value j
pub record TruthIsOld (t : Found) (i r j : ℕ) : Type 0 where
  pub whole : IsOld t (simple (Eq i j) r 0)
  pub first : IsOld t (simple (Eq (arg t.terms i 0) j) r i)
  pub second : IsOld t (simple (Eq (arg t.terms i 1) j) r i)

abbrev pub TruthsAreOld : Found → ℕ → Type 0
TruthsAreOld t i = (r j : ℕ) → 19 ≤ r → r < 22 → j < 2 → TruthIsOld t i r j

-- the steps of i as a sum, difference or product
abbrev pub SumsAreOld : Found → ℕ → Type 0
SumsAreOld t i =
    is_arithmetic (node_at t.terms i).head ≡ true → (p q j : ℕ) → p < count t.terms → q < count t.terms → j < count t.terms
    → on t.steps (Eq (arg t.terms i 0) p) ≡ true → on t.steps (Eq (arg t.terms i 1) q) ≡ true
    → IsOld t (record { fact = Eq i j; rule = 23; p = p; q = q })

pub record PairIsOld (t : Found) (i j : ℕ) : Type 0 where
  pub alike : IsOld t (simple (Eq i j) 4 0)
  pub equal : EqualIsOld t i j
  pub below : BelowIsOld t i j

pub record TermIsOld (t : Found) (i : ℕ) : Type 0 where
  pub form : FormIsOld t i
  pub bounds : BoundsAreOld t i
  pub truths : TruthsAreOld t i
  pub sums : SumsAreOld t i
  pub uppers : (j : ℕ) → j < count t.terms → UpperIsOld t i j
  pub lowers : (h : ℕ) → h < count t.terms → IsOld t (simple (Le h i) 16 0)
  pub pairs : (j : ℕ) → j < count t.terms → PairIsOld t i j
