-- The order of the levels that the names of an interface keep: its lattice, its ends, and what it breaks. For all that speaks of
-- levels of texts.
use Rattle.std.specs.Prelude.{◌≡◌, ℕ, ◌*◌, ◌^◌, ◌<◌, ◌≤◌, List, [], ◌∷◌, length}
use Rattle.sp_text.specs.declared.fault.Rule.{Rule}
use Rattle.sp_text.specs.declared.fault.Rule.TheVariants as rule
use Rattle.sp_text.specs.declared.fault.Span.{Span}
use Rattle.sp_text.specs.declared.limits.TheConstants.{MOST_LEVELS}
use Rattle.sp_text.specs.declared.violation.Violation.{Violation}
use Rattle.sp_text.specs.Violations.{breaks}
use Rattle.sp_lattice.specs.Bounds.{EachHasLub, IsLattice, IsPartialOrder}
use Rattle.sp_lattice.specs.Closure.{IsOrdered}
use Rattle.sp_lattice.specs.Product.{IsProductBelow}
use Rattle.sp_lattice.specs.Refusal.{HasNoGlb, HasNoLub, IsCycle, IsFirstPair}
use Rattle.sp_scopes.specs.declared.lent.LevelOrder.{LevelOrder}
use Rattle.sp_scopes.specs.declared.lent.LevelOrder.TheVariants as order
use Rattle.sp_scopes.specs.declared.scopes.Scopes.{Scopes}
use Rattle.sp_order.specs.declared.order.NoLattice.{NoLattice}
use Rattle.sp_order.specs.declared.order.NoLattice.TheVariants as refusal

-- how many levels an order has, where n are named
abbrev pub count_of : ℕ → LevelOrder → ℕ
count_of n (order.Pairs ps) = n
count_of n (order.Product c k) = c * 2 ^ k

abbrev pub level_count : Scopes → ℕ
level_count s = count_of (length s.levels) s.order

-- one level is below another, or is the same: by the declared pairs, or in the product
abbrev pub IsLower : LevelOrder → ℕ → ℕ → Type 0
IsLower (order.Pairs ps) x y = IsOrdered ps x y
IsLower (order.Product c k) x y = IsProductBelow k x y

-- two of the first n levels
pub record IsPairOf (n : ℕ) (p : ℕ × ℕ) : Type 0 where
  pub low : p.0 < n
  pub high : p.1 < n

abbrev pub ArePairs : ℕ → List (ℕ × ℕ) → Type 0
ArePairs n [] = Unit {0}
ArePairs n (p ∷ ps) = IsPairOf n p × ArePairs n ps

-- declared pairs speak of these levels alone
abbrev pub ArePairsOf : ℕ → LevelOrder → Type 0
ArePairsOf n (order.Pairs ps) = ArePairs n ps
ArePairsOf n (order.Product c k) = Unit {0}

-- 1 to 256 levels, and pairs of them alone
pub record HasLevels (s : Scopes) : Type 0 where
  pub some : 1 ≤ level_count s
  pub few : level_count s ≤ MOST_LEVELS
  pub pairs : ArePairsOf (level_count s) s.order

-- the order is a lattice
abbrev pub KeepsLattice : Scopes → Type 0
KeepsLattice s = IsLattice (level_count s) (IsLower s.order)

-- Why the order R of n levels is no lattice, with the first two levels that show it: each is below the other, or else they have no least
-- upper bound, or else, where all have, no greatest lower one.
abbrev pub IsFlaw : ℕ → (ℕ → ℕ → Type 0) → Rule → Type 0
IsFlaw n R (rule.Cycle x y) = IsFirstPair n (IsCycle R) x y
IsFlaw n R (rule.NoLub x y) = IsPartialOrder n R × IsFirstPair n (HasNoLub n R) x y
IsFlaw n R (rule.NoGlb x y) = IsPartialOrder n R × EachHasLub n R × IsFirstPair n (HasNoGlb n R) x y
IsFlaw n R r = ⊥

-- what the order breaks, at the keyword of its declaration
pub data IsOrderBroken (s : Scopes) (p : Span) : List Violation → Type 0 where
  Lattice : KeepsLattice s → IsOrderBroken s p []
  Flawed : (r : Rule) → IsFlaw (level_count s) (IsLower s.order) r → IsOrderBroken s p (breaks p r)

-- what a refusal of a lattice says of the order
abbrev pub IsRefusal : ℕ → (ℕ → ℕ → Type 0) → NoLattice → Type 0
IsRefusal n R (refusal.Flaw r) = IsFlaw n R r
IsRefusal n R refusal.Memory = Unit {0}

-- the least and the greatest level
pub record AreEnds (s : Scopes) (bottom top : ℕ) : Type 0 where
  pub bottom_is_level : bottom < level_count s
  pub bottom_is_least : (x : ℕ) → x < level_count s → IsLower s.order bottom x
  pub top_is_level : top < level_count s
  pub top_is_greatest : (x : ℕ) → x < level_count s → IsLower s.order x top
