-- What a sink was given, for the contract of a put and for each definition of what a run writes. Both relations hold
-- of a sink that tells nothing too, which then goes on telling nothing.
use Rattle.std.specs.Prelude.{◌≡◌, ℕ, ◌≤◌, List, ◌++◌, Option, option_map, length, take}

-- where the bytes written are told, these bytes now stand behind those that were there
abbrev pub Appends : Option (List ℕ) → Option (List ℕ) → List ℕ → Type 0
Appends before now bytes = now ≡ option_map (λ written. written ++ bytes) before

-- where the bytes written are told, a prefix of these bytes now stands behind those that were there
abbrev pub AppendsPrefix : Option (List ℕ) → Option (List ℕ) → List ℕ → Type 0
AppendsPrefix before now bytes = (n : ℕ) × (n ≤ length bytes) × Appends before now (take n bytes)
