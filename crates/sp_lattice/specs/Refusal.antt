-- Why a declaration of levels is refused, for its callers, who report the refusal.
use Rattle.std.specs.Prelude.{◌≡◌, ℕ, ◌*◌, ◌^◌, ◌-◌, ◌<◌, ◌≤◌, ◌⊎◌, List, min}
use Rattle.sp_text.specs.declared.limits.TheConstants.{MOST_LEVELS}
use Rattle.sp_lattice.specs.Bounds.{IsPartialOrder, IsLeastUpper, IsGreatestLower, EachHasLub}
use Rattle.sp_lattice.specs.Closure.{IsOrdered}
use Rattle.sp_lattice.specs.declared.decl.LatticeFault.{LatticeFault}
use Rattle.sp_lattice.specs.declared.decl.LatticeFault.TheVariants.{TooManyLevels, Empty, Cycle, NoLub, NoGlb, Memory}

-- the pair a, b comes before x, y: by the first level, and then by the second
abbrev pub IsEarlier : ℕ → ℕ → ℕ → ℕ → Type 0
IsEarlier a b x y = (a < x) ⊎ ((a ≡ x) × (b < y))

-- x, y is the first pair of levels, x the lesser number, of which P holds
pub record IsFirstPair (count : ℕ) (P : ℕ → ℕ → Type 0) (x y : ℕ) : Type 0 where
  pub ordered : x < y
  pub level : y < count
  pub there : P x y
  pub first : (a b : ℕ) → a < b → b < count → IsEarlier a b x y → ¬ P a b

-- each of the two levels is below the other
abbrev pub IsCycle : (ℕ → ℕ → Type 0) → ℕ → ℕ → Type 0
IsCycle R x y = R x y × R y x

abbrev pub HasNoLub : ℕ → (ℕ → ℕ → Type 0) → ℕ → ℕ → Type 0
HasNoLub count R x y = (z : ℕ) → ¬ IsLeastUpper count R x y z

abbrev pub HasNoGlb : ℕ → (ℕ → ℕ → Type 0) → ℕ → ℕ → Type 0
HasNoGlb count R x y = (z : ℕ) → ¬ IsGreatestLower count R x y z

-- what a refusal says of a declaration of this count and these pairs
abbrev pub IsRefused : ℕ → List (ℕ × ℕ) → LatticeFault → Type 0
IsRefused count pairs (TooManyLevels n) = (MOST_LEVELS < count) × (n ≡ count)
IsRefused count pairs Empty = count ≡ 0
IsRefused count pairs (Cycle x y) = (count ≤ MOST_LEVELS) × IsFirstPair count (IsCycle (IsOrdered pairs)) x y
IsRefused count pairs (NoLub x y) =
    (count ≤ MOST_LEVELS) × IsPartialOrder count (IsOrdered pairs) × IsFirstPair count (HasNoLub count (IsOrdered pairs)) x y
IsRefused count pairs (NoGlb x y) =
    (count ≤ MOST_LEVELS) × IsPartialOrder count (IsOrdered pairs) × EachHasLub count (IsOrdered pairs)
    × IsFirstPair count (HasNoGlb count (IsOrdered pairs)) x y
IsRefused count pairs Memory = Unit {0}

-- what a refusal says of a product of a chain and categories
abbrev pub IsProductRefused : ℕ → ℕ → LatticeFault → Type 0
IsProductRefused chain categories (TooManyLevels n) =
    (MOST_LEVELS < chain * 2 ^ categories) × (n ≡ min (chain * 2 ^ categories) (2 ^ 32 - 1))
IsProductRefused chain categories Memory = chain * 2 ^ categories ≤ MOST_LEVELS
IsProductRefused chain categories fault = ⊥
