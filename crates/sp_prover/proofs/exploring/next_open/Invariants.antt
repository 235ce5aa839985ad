use Rattle.std.proofs.Common.{ℕ, ◌<◌, ◌≤◌}
use Rattle.std.specs.Prelude.{slice_index}
use Rattle.sp_prover.specs.Exploring.{IsSettled}
use Rattle.sp_prover.proofs.exploring.next_open.Given as goal

abbrev pub invariant-loop-i : goal.invariant-loop-i
invariant-loop-i l = (k : ℕ) → l.at ≤ k → k < l.i → IsSettled l.facts (slice_index l.places k)
