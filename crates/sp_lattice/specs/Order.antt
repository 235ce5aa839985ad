-- A lattice as contracts see it: how many levels it has, and which of them are below which, with the bounds and ends
-- that these determine. For each layer that compares levels or joins them.
use Rattle.std.specs.Prelude.{◌≡◌, ℕ, ◌+◌, ◌*◌, ◌<◌, ◌≤◌, ◌&&◌, ◌||◌, not, Bool, false, List, IsTrue, length, nat_lt, slice_index_or, unwrap_or}
use Rattle.std.specs.List.{find, list_all, range_with_len}
use Rattle.sp_text.specs.declared.limits.TheConstants.{MOST_LEVELS}
use Rattle.sp_lattice.specs.Bounds.{IsPartialOrder, IsLeastUpper, IsGreatestLower}

-- the table has a row for each level x, which says for each level y whether x is below y
pub record Order : Type 0 where
  pub count : ℕ
  pub table : List Bool

-- whether x and y are levels, and x is below y or the same
unfoldable pub is_below : Order → ℕ → ℕ → Bool
is_below o x y = nat_lt x o.count && (nat_lt y o.count && slice_index_or o.table (x * o.count + y) false)

abbrev pub IsBelow : Order → ℕ → ℕ → Type 0
IsBelow o x y = IsTrue (is_below o x y)

abbrev pub levels : Order → List ℕ
levels o = range_with_len 0 o.count

-- whether z is the least upper bound of x and y
abbrev pub is_least_upper : Order → ℕ → ℕ → ℕ → Bool
is_least_upper o x y z =
    is_below o x z && is_below o y z && list_all (λ w. not (is_below o x w && is_below o y w) || is_below o z w) (levels o)

-- whether z is the greatest lower bound of x and y
abbrev pub is_greatest_lower : Order → ℕ → ℕ → ℕ → Bool
is_greatest_lower o x y z =
    is_below o z x && is_below o z y && list_all (λ w. not (is_below o w x && is_below o w y) || is_below o w z) (levels o)

-- the least upper bound of two levels, or level 0 where they have none
unfoldable pub join : Order → ℕ → ℕ → ℕ
join o x y = unwrap_or (find (is_least_upper o x y) (levels o)) 0

-- the greatest lower bound of two levels, or level 0 where they have none
unfoldable pub meet : Order → ℕ → ℕ → ℕ
meet o x y = unwrap_or (find (is_greatest_lower o x y) (levels o)) 0

-- the level below each other, or level 0 where there is none
unfoldable pub bottom_level : Order → ℕ
bottom_level o = unwrap_or (find (λ z. list_all (λ w. is_below o z w) (levels o)) (levels o)) 0

-- the level above each other, or level 0 where there is none
unfoldable pub top_level : Order → ℕ
top_level o = unwrap_or (find (λ z. list_all (λ w. is_below o w z) (levels o)) (levels o)) 0

-- the table has an entry for each two levels, the order is a lattice of 1 to 256 levels, `join` and `meet` are its bounds,
-- and the two ends are its ends
pub record IsLatticeOrder (o : Order) : Type 0 where
  pub some : 0 < o.count
  pub few : o.count ≤ MOST_LEVELS
  pub square : length o.table ≡ o.count * o.count
  pub partial : IsPartialOrder o.count (IsBelow o)
  pub lubs : (x y : ℕ) → x < o.count → y < o.count → IsLeastUpper o.count (IsBelow o) x y (join o x y)
  pub glbs : (x y : ℕ) → x < o.count → y < o.count → IsGreatestLower o.count (IsBelow o) x y (meet o x y)
  pub bottom_is_level : bottom_level o < o.count
  pub bottom_is_least : (x : ℕ) → x < o.count → IsBelow o (bottom_level o) x
  pub top_is_level : top_level o < o.count
  pub top_is_greatest : (x : ℕ) → x < o.count → IsBelow o x (top_level o)

-- the order has this count, and is this relation on its levels
pub record IsOrderOf (count : ℕ) (R : ℕ → ℕ → Type 0) (o : Order) : Type 0 where
  pub count_same : o.count ≡ count
  pub below : (x y : ℕ) → x < count → y < count → R x y → IsBelow o x y
  pub only_below : (x y : ℕ) → x < count → y < count → IsBelow o x y → R x y

-- the law: two orders with the same relation on the levels are one
abbrev pub OneOrder : Type 0
OneOrder = (o p : Order) → IsLatticeOrder o → IsLatticeOrder p → IsOrderOf p.count (IsBelow p) o → o ≡ p
