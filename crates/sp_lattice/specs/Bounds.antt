-- What a lattice is: levels in a partial order, in which each two have a least upper and a greatest lower bound.
-- For the declarations of this crate, and for each layer that reasons about levels.
use Rattle.std.specs.Prelude.{◌≡◌, ℕ, ◌<◌}

-- each level is below itself, two levels are not below each other, and below goes on from level to level
pub record IsPartialOrder (count : ℕ) (R : ℕ → ℕ → Type 0) : Type 0 where
  pub reflexive : (x : ℕ) → x < count → R x x
  pub antisymmetric : (x y : ℕ) → x < count → y < count → R x y → R y x → x ≡ y
  pub transitive : (x y z : ℕ) → x < count → y < count → z < count → R x y → R y z → R x z

-- z is above x and y, and below each level that is above both
pub record IsLeastUpper (count : ℕ) (R : ℕ → ℕ → Type 0) (x y z : ℕ) : Type 0 where
  pub level : z < count
  pub left : R x z
  pub right : R y z
  pub least : (w : ℕ) → w < count → R x w → R y w → R z w

-- z is below x and y, and above each level that is below both
pub record IsGreatestLower (count : ℕ) (R : ℕ → ℕ → Type 0) (x y z : ℕ) : Type 0 where
  pub level : z < count
  pub left : R z x
  pub right : R z y
  pub greatest : (w : ℕ) → w < count → R w x → R w y → R w z

-- each two levels have a least upper bound
abbrev pub EachHasLub : ℕ → (ℕ → ℕ → Type 0) → Type 0
EachHasLub count R = (x y : ℕ) → x < count → y < count → (z : ℕ) × IsLeastUpper count R x y z

-- each two levels have a greatest lower bound
abbrev pub EachHasGlb : ℕ → (ℕ → ℕ → Type 0) → Type 0
EachHasGlb count R = (x y : ℕ) → x < count → y < count → (z : ℕ) × IsGreatestLower count R x y z

-- the levels below the count are a lattice
pub record IsLattice (count : ℕ) (R : ℕ → ℕ → Type 0) : Type 0 where
  pub partial : IsPartialOrder count R
  pub lubs : EachHasLub count R
  pub glbs : EachHasGlb count R
