-- The order that declared pairs mean: their reflexive and transitive closure.
-- For declarations of levels, and for the rules of texts that declare them.
use Rattle.std.specs.Prelude.{ℕ, ◌<◌, List}
use Rattle.std.specs.List.{All, Contains}

-- there is a path from one level to another, of steps that R allows
pub data Path (R : ℕ → ℕ → Type 0) : ℕ → ℕ → Type 0 where
  here : {x : ℕ} → Path R x x
  step : {x y z : ℕ} → R x y → Path R y z → Path R x z

-- the pairs speak of levels below the count alone
abbrev pub AreLevels : ℕ → List (ℕ × ℕ) → Type 0
AreLevels count pairs = All (λ pair. (pair.0 < count) × (pair.1 < count)) pairs

-- the pair is declared
abbrev pub IsDeclared : List (ℕ × ℕ) → ℕ → ℕ → Type 0
IsDeclared pairs x y = Contains pairs (x, y)

-- the order of declared pairs: there is a path of them
abbrev pub IsOrdered : List (ℕ × ℕ) → ℕ → ℕ → Type 0
IsOrdered pairs x y = Path (IsDeclared pairs) x y
