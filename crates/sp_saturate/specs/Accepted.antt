-- Steps that the leaf of a certificate may have. For the search, and for those who check.
use Rattle.std.specs.Prelude.{◌≡◌, ℕ, ◌+◌, ◌<◌, ◌||◌, Bool, true, false, List, length, take, None}
use Rattle.sp_rules.specs.Terms.{Terms}
use Rattle.sp_rules.specs.Table.{lack_of}
use Rattle.sp_rules.specs.Clash.{is_clash}
use Rattle.sp_rules.specs.declared.fact.Fact.{Fact}
use Rattle.sp_rules.specs.declared.fact.Step.{Step}
use Rattle.sp_saturate.specs.Steps.{on, step_at}

-- each step lacks nothing over the given facts and those before it, and no fact comes twice
pub record AreAccepted (ts : Terms) (given : Fact → Bool) (steps : List Step) : Type 0 where
  pub accepted : (k : ℕ) → k < length steps → lack_of ts (λ f. given f || on (take k steps) f) (step_at steps k) ≡ None
  pub apart : (k : ℕ) → k < length steps → on (take k steps) (step_at steps k).fact ≡ false

-- the last step is a clash
abbrev pub EndInClash : Terms → List Step → Type 0
EndInClash ts steps = (k : ℕ) × (k + 1 ≡ length steps) × (is_clash ts (step_at steps k).fact ≡ true)
