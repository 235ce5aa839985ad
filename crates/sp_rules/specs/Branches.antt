-- Truth values for the atoms of a formula, and the branches that are open under the given facts.
use Rattle.std.specs.Prelude.{◌≡◌, ℕ, zero, suc, Bool, true, List, length, slice_index}
use Rattle.sp_rules.specs.Terms.{Terms}
use Rattle.sp_rules.specs.Clash.{is_clash}
use Rattle.sp_rules.specs.Facts.{has_truth, with_fact}
use Rattle.sp_rules.specs.Follows.{Follows}
use Rattle.sp_rules.specs.declared.fact.Fact.{Fact}

-- the given facts, and the values of the first n atoms
abbrev pub with_values : List ℕ → (ℕ → Bool) → ℕ → (Fact → Bool) → Fact → Bool
with_values atoms v zero given = given
with_values atoms v (suc n) given = with_fact (has_truth (slice_index atoms n) (v n)) (with_values atoms v n given)

-- the given facts, and the values of all atoms
abbrev pub valued : List ℕ → (ℕ → Bool) → (Fact → Bool) → Fact → Bool
valued atoms v given = with_values atoms v (length atoms) given

-- a clash follows
abbrev pub HasClash : Terms → (Fact → Bool) → Type 0
HasClash ts given = (f : Fact) × (is_clash ts f ≡ true) × Follows ts given f

-- no clash follows from the given facts and these values of the atoms
abbrev pub IsOpen : Terms → List ℕ → (Fact → Bool) → (ℕ → Bool) → Type 0
IsOpen ts atoms given v = HasClash ts (valued atoms v given) → ⊥
