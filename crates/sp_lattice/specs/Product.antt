-- The product of a chain and the sets of some categories: its levels' numbers, and its order.
-- For the products that this crate declares, and for the rules of texts that name them.
use Rattle.std.specs.Prelude.{◌≡◌, ℕ, ◌+◌, ◌*◌, ◌/◌, ◌%◌, ◌^◌, ◌≤◌}
use Rattle.std.specs.Int.{bit_at}

-- the number of the level at a chain position, with a set of categories
abbrev pub level_number : ℕ → ℕ → ℕ → ℕ
level_number categories position set = position * 2 ^ categories + set

abbrev pub position_of : ℕ → ℕ → ℕ
position_of categories level = level / 2 ^ categories

abbrev pub set_of : ℕ → ℕ → ℕ
set_of categories level = level % 2 ^ categories

-- a set of categories is a number: category j, counted from 0, is in it where its bit of value 2 ^ j is 1
abbrev pub IsIn : ℕ → ℕ → Type 0
IsIn j set = bit_at set j ≡ 1

abbrev pub IsSubset : ℕ → ℕ → Type 0
IsSubset s t = (j : ℕ) → IsIn j s → IsIn j t

-- one level of the product is below another: its chain position is, and each of its categories is the other's too
pub record IsProductBelow (categories x y : ℕ) : Type 0 where
  pub chain : position_of categories x ≤ position_of categories y
  pub sets : IsSubset (set_of categories x) (set_of categories y)
