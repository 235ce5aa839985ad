-- Which of two branches comes first: by the atoms in order, TRUE before FALSE.
use Rattle.std.specs.Prelude.{◌≡◌, ℕ, ◌<◌, ◌⊎◌, Bool, true, false}

-- v and w give the first k atoms the same values
abbrev pub Agree : ℕ → (ℕ → Bool) → (ℕ → Bool) → Type 0
Agree k v w = (j : ℕ) → j < k → v j ≡ w j

-- v is before w among n atoms: at the first that has different values, v is TRUE
abbrev pub IsBefore : ℕ → (ℕ → Bool) → (ℕ → Bool) → Type 0
IsBefore n v w = (k : ℕ) × (k < n) × Agree k v w × (v k ≡ true) × (w k ≡ false)

-- v is w or before it
abbrev pub IsNotAfter : ℕ → (ℕ → Bool) → (ℕ → Bool) → Type 0
IsNotAfter n v w = Agree n v w ⊎ IsBefore n v w
