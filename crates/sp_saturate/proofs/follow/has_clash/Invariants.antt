use Rattle.std.proofs.Common.{◌≡◌, ℕ, ◌<◌, ◌≤◌, false}
use Rattle.sp_rules.specs.Clash.{is_clash}
use Rattle.sp_saturate.specs.Steps.{step_at}
use Rattle.sp_saturate.proofs.follow.has_clash.Given as goal

abbrev pub invariant-loop-k : goal.invariant-loop-k
invariant-loop-k l = (m : ℕ) → m < l.k → l.from ≤ m → is_clash l.trail.terms (step_at l.trail.steps m).fact ≡ false
