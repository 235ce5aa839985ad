-- What was written behind what stood there, for the promise on ACCEPTED.
use Rattle.std.specs.Prelude.{◌≡◌, ℕ, List, ◌++◌, Option, Some}

-- the sink tells what was written, and now these bytes stand behind it
abbrev pub IsAppended : Option (List ℕ) → Option (List ℕ) → List ℕ → Type 0
IsAppended before now bytes = (written : List ℕ) × (before ≡ Some written) × (now ≡ Some (written ++ bytes))
