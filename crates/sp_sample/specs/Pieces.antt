-- What the texts of a sample are put together from: lines in which a number stands, and what stands once for each number.
use Rattle.std.specs.Prelude.{ℕ, zero, suc, List, [], ◌++◌}
use Rattle.std.specs.Fmt.{decimal}

-- the number in decimal, between two texts
unfoldable pub numbered : List ℕ → ℕ → List ℕ → List ℕ
numbered before k after = before ++ decimal k ++ after

-- the texts of the numbers below n, in order
abbrev pub each_below : (ℕ → List ℕ) → ℕ → List ℕ
each_below text zero = []
each_below text (suc n) = each_below text n ++ text n
