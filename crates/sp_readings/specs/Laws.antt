-- The rules hold under every reading, and no clash does.
use Rattle.std.specs.Prelude.{◌≡◌, ℕ, ◌<◌, Bool, true, List, length, slice_index}
use Rattle.sp_values.specs.declared.value.Value.{Value}
use Rattle.sp_rules.specs.Terms.{Terms}
use Rattle.sp_rules.specs.Clash.{is_clash}
use Rattle.sp_rules.specs.Follows.{Follows}
use Rattle.sp_rules.specs.declared.fact.Fact.{Fact}
use Rattle.sp_core.specs.Values.{is_true}
use Rattle.sp_rules.specs.Branches.{IsOpen}
use Rattle.sp_readings.specs.Readings.{Holds, IsReading, IsTruth, Reading}

-- each of the facts holds
abbrev pub EachHolds : Terms → (ℕ → Value) → (Fact → Bool) → Type 0
EachHolds ts v given = (f : Fact) → given f ≡ true → Holds ts.lattice v f

-- the law: what follows from facts that hold under a reading holds under it
abbrev pub FollowersHold : Type 0
FollowersHold = (r : Reading) (ts : Terms) (v : ℕ → Value) → IsReading r ts v → (given : Fact → Bool) → EachHolds ts v given
    → (f : Fact) → Follows ts given f → Holds ts.lattice v f

-- the law: no clash follows from facts that hold under a reading
abbrev pub NoClashFollows : Type 0
NoClashFollows = (r : Reading) (ts : Terms) (v : ℕ → Value) → IsReading r ts v → (given : Fact → Bool) → EachHolds ts v given
    → (f : Fact) → is_clash ts f ≡ true → Follows ts given f → ⊥

-- the law: where the given facts hold under a reading, the values of the atoms there are an open branch
abbrev pub ReadingsAreOpen : Type 0
ReadingsAreOpen = (r : Reading) (ts : Terms) (v : ℕ → Value) → IsReading r ts v → (given : Fact → Bool) → EachHolds ts v given
    → (atoms : List ℕ) → ((k : ℕ) → k < length atoms → IsTruth (v (slice_index atoms k))) → IsOpen ts atoms given (λ k. is_true (v (slice_index atoms k)))
