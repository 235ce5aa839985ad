-- Counts of faults, by which a failed read or write shows its cause, for the library, the sink and all that use them.
use Rattle.std.specs.Prelude.{ℕ, ◌+◌, ◌-◌, ◌^◌, ◌≤◌, min}

-- the count after one more, which stops at 2 ^ 64 - 1
abbrev pub raised : ℕ → ℕ
raised count = min (count + 1) (2 ^ 64 - 1)

-- the count rose, or it stands where every count stops
abbrev pub Rose : ℕ → ℕ → Type 0
Rose before now = raised before ≤ now
