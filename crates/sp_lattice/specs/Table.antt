-- Relations and bounds as flat tables, a row for each level, for the calls inside this crate that fill them.
use Rattle.std.specs.Prelude.{◌≡◌, ℕ, ◌+◌, ◌*◌, ◌<◌, ◌&&◌, Bool, false, List, Option, Some, None, IsTrue, slice_index, slice_index_or, length}
use Rattle.sp_lattice.specs.Bounds.{IsLeastUpper}
use Rattle.sp_lattice.specs.Refusal.{IsFirstPair, HasNoLub}
use Rattle.sp_lattice.specs.declared.table.BoundFault.{BoundFault}
use Rattle.sp_lattice.specs.declared.table.BoundFault.TheVariants.{Missing, Memory}
use Rattle.sp_lattice.specs.Order.{Order, IsLatticeOrder, join, meet, bottom_level, top_level}

-- the entry of row x and column y
abbrev pub entry : ℕ → List Bool → ℕ → ℕ → Bool
entry count table x y = slice_index_or table (x * count + y) false

-- the table relates two levels
pub record IsRelated (count : ℕ) (table : List Bool) (x y : ℕ) : Type 0 where
  pub low : x < count
  pub high : y < count
  pub there : IsTrue (entry count table x y)

-- whether z is above x and y, and below the level found so far
abbrev pub is_lower_upper : ℕ → List Bool → ℕ → ℕ → ℕ → Option ℕ → Bool
is_lower_upper count table x y z None = entry count table x z && entry count table y z
is_lower_upper count table x y z (Some bound) = entry count table x z && (entry count table y z && entry count table z bound)

-- the bounds have for each two levels their least upper bound
pub record AreLubs (count : ℕ) (table : List Bool) (bounds : List ℕ) : Type 0 where
  pub whole : length bounds ≡ count * count
  pub each : (x y : ℕ) → x < count → y < count → IsLeastUpper count (IsRelated count table) x y (slice_index bounds (x * count + y))

-- a level above each other
pub record IsGreatest (count : ℕ) (table : List Bool) (z : ℕ) : Type 0 where
  pub level : z < count
  pub above : (w : ℕ) → w < count → IsRelated count table w z

-- what a lattice keeps beside its order: the bounds and the ends that the order has
pub record IsKept (o : Order) (lubs glbs : List ℕ) (least greatest : ℕ) : Type 0 where
  pub lattice : IsLatticeOrder o
  pub lubs_whole : length lubs ≡ o.count * o.count
  pub glbs_whole : length glbs ≡ o.count * o.count
  pub joins : (x y : ℕ) → x < o.count → y < o.count → slice_index lubs (x * o.count + y) ≡ join o x y
  pub meets : (x y : ℕ) → x < o.count → y < o.count → slice_index glbs (x * o.count + y) ≡ meet o x y
  pub bottom : least ≡ bottom_level o
  pub top : greatest ≡ top_level o

-- what a fault says: the first two levels that have no least upper bound, or nothing
abbrev pub IsMissing : ℕ → List Bool → BoundFault → Type 0
IsMissing count table (Missing x y) = IsFirstPair count (HasNoLub count (IsRelated count table)) x y
IsMissing count table Memory = Unit {0}
