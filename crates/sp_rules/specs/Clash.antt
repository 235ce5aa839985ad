-- Clashes: facts that are never true. And the first clash of a set of facts.
use Rattle.std.specs.Prelude.{◌≡◌, ℕ, ◌<◌, ◌⊎◌, ◌&&◌, Bool, true, false, not, Option, MatchOption}
use Rattle.sp_values.specs.Identity.{same_value}
use Rattle.sp_values.specs.declared.value.Value.TheVariants.{Level}
use Rattle.sp_lattice.specs.Order.{Order}
use Rattle.sp_pool.specs.declared.node.Head.{Head}
use Rattle.sp_pool.specs.declared.node.Head.TheVariants.{Const}
use Rattle.sp_rules.specs.Terms.{Terms, are_below, count, node_at}
use Rattle.sp_rules.specs.Table.{in_range}
use Rattle.sp_rules.specs.declared.fact.Fact.{Fact}
use Rattle.sp_rules.specs.declared.fact.Fact.TheVariants.{Eq, Le}

-- two different constants
abbrev pub are_apart : Head → Head → Bool
are_apart (Const a) (Const b) = not (same_value a b)
are_apart _ _ = false

-- the constants of two levels, whose order is denied
abbrev pub are_denied : Order → Head → Head → Bool
are_denied o (Const (Level x)) (Const (Level y)) = not (are_below o (Const (Level x)) (Const (Level y)))
are_denied o _ _ = false

-- an equality of two different constants, or an order of two level constants that the lattice denies
abbrev pub is_clash : Terms → Fact → Bool
is_clash ts (Eq i j) = in_range (count ts) (Eq i j) && are_apart (node_at ts i).head (node_at ts j).head
is_clash ts (Le i j) = in_range (count ts) (Le i j) && are_denied ts.lattice (node_at ts i).head (node_at ts j).head

-- by the first number, then by the second
abbrev pub IsLess : ℕ → ℕ → ℕ → ℕ → Type 0
IsLess i j a b = (i < a) ⊎ ((i ≡ a) × (j < b))

-- equalities before the order, then by their numbers
abbrev pub IsBefore : Fact → Fact → Type 0
IsBefore (Eq i j) (Eq a b) = IsLess i j a b
IsBefore (Eq i j) (Le a b) = Unit {0}
IsBefore (Le i j) (Eq a b) = ⊥
IsBefore (Le i j) (Le a b) = IsLess i j a b

-- a clash among the facts, and the first one; or that there is none
abbrev pub IsFirstClash : Terms → (Fact → Type 0) → Option Fact → Type 0
IsFirstClash ts Has o =
    MatchOption o ((f : Fact) → Has f → is_clash ts f ≡ false)
    (λ f. record { there : Has f; clash : is_clash ts f ≡ true; first : (g : Fact) → IsBefore g f → Has g → is_clash ts g ≡ false })
