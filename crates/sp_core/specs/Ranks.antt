-- In which order the changes of one function are made. A change may read new values, so the functions that it reads new are
-- changed before it. This makes chains of functions, and the rank of a function is how long the longest chain is that ends
-- at it; for well-formed effects and for the step.
use Rattle.std.specs.Prelude.{◌≡◌, ℕ, zero, suc, ◌≤◌, ◌==◌, max, if◌then◌else◌, List, [], ◌∷◌, ◌++◌, length, map}
use Rattle.std.specs.List.{Contains, filter}
use Rattle.std.specs.Set.{distinct_count}
use Rattle.sp_core.specs.Effects.{GuardedChange}
use Rattle.sp_core.specs.Tree.{Tree, Trees, Const, Var, Not, Two, If, Param, Look, Every, New, none, more}

-- The order

-- the V-functions whose new values an expression reads, from left to right
abbrev mutual
  pub new_reads : Tree → List ℕ
  new_reads (Const v) = []
  new_reads (Var k) = []
  new_reads (Not a) = new_reads a
  new_reads (Two o a b) = new_reads a ++ new_reads b
  new_reads (If c a b) = new_reads c ++ (new_reads a ++ new_reads b)
  new_reads (Param p ds) = new_reads_in ds
  new_reads (Look g ds) = new_reads_in ds
  new_reads (Every k t b) = new_reads b
  new_reads (New g ds) = new_reads_in ds ++ g ∷ []

  pub new_reads_in : Trees → List ℕ
  new_reads_in none = []
  new_reads_in (more d ds) = new_reads d ++ new_reads_in ds

-- those whose new values a change reads: in the arguments of its target, and in its value
abbrev pub change_reads : GuardedChange → List ℕ
change_reads a = new_reads_in a.args ++ new_reads a.value

-- function h is before function g: a change of g reads a new value of h
pub record IsBeforeBy (as' : List GuardedChange) (h g : ℕ) (a : GuardedChange) : Type 0 where
  pub of : Contains as' a
  pub changes : a.fun ≡ g
  pub reads : Contains (change_reads a) h

abbrev pub IsBefore : List GuardedChange → ℕ → ℕ → Type 0
IsBefore as' h g = (a : GuardedChange) × IsBeforeBy as' h g a

-- a chain of n steps of this order leads from function h to function g
abbrev pub Leads : List GuardedChange → ℕ → ℕ → ℕ → Type 0
Leads as' zero h g = h ≡ g
Leads as' (suc n) h g = (k : ℕ) × Leads as' n h k × IsBefore as' k g

-- a chain of n steps ends at function g
abbrev pub EndsAt : List GuardedChange → ℕ → ℕ → Type 0
EndsAt as' n g = (h : ℕ) × Leads as' n h g

-- no chain leads from a function back to itself
abbrev pub HasNoCycle : List GuardedChange → Type 0
HasNoCycle as' = (n g : ℕ) → Leads as' (suc n) g g → ⊥

-- Ranks

-- the longest chain that ends at function g has n steps
pub record IsRank (as' : List GuardedChange) (g n : ℕ) : Type 0 where
  pub chain : EndsAt as' n g
  pub longest : (k : ℕ) → EndsAt as' k g → k ≤ n

-- the functions before function g
abbrev pub functions_before : List GuardedChange → ℕ → List ℕ
functions_before [] g = []
functions_before (a ∷ as') g = if a.fun == g then change_reads a ++ functions_before as' g else functions_before as' g

-- the greatest of what f gives at these functions, 0 where there is none
abbrev pub greatest : (ℕ → ℕ) → List ℕ → ℕ
greatest f [] = 0
greatest f (g ∷ gs) = max (f g) (greatest f gs)

-- how many steps the longest chain has that ends at function g, of those with at most n steps
abbrev pub longest_within : List GuardedChange → ℕ → ℕ → ℕ
longest_within as' zero g = 0
longest_within as' (suc n) g = greatest (λ h. suc (longest_within as' n h)) (functions_before as' g)

-- The rank of function g. Without a cycle no chain has more steps than there are changes, so this is how many steps the
-- longest one has: that law is proved, and says all there is to know of it. A function that is read new but not changed
-- has rank 0.
abbrev pub change_rank : List GuardedChange → ℕ → ℕ
change_rank as' g = longest_within as' (length as') g

-- how many ranks the changed functions have, from 0 on
abbrev pub rank_count : List GuardedChange → ℕ
rank_count as' = greatest (λ g. suc (change_rank as' g)) (map (λ a. a.fun) as')

-- the changes of functions of rank k
abbrev pub of_rank : List GuardedChange → ℕ → List GuardedChange
of_rank as' k = filter (λ a. change_rank as' a.fun == k) as'

-- how many functions are changed
abbrev pub changed_functions : List GuardedChange → ℕ
changed_functions as' = distinct_count ◌==◌ (map (λ a. a.fun) as')
