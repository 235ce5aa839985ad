use Rattle.std.proofs.Common.{◌≡◌, ℕ, ◌<◌, ◌↔◌, true, false, length}
use Rattle.std.specs.Prelude.{slice_index_or}
use Rattle.sp_rules.specs.Facts.{has_truth}
use Rattle.sp_saturate.specs.Situations.{IsFollowing}
use Rattle.sp_prover.specs.Exploring.{atom_at}
use Rattle.sp_prover.proofs.exploring.truths.Given as goal

abbrev pub invariant-loop-k : goal.invariant-loop-k
invariant-loop-k l = record {
  size : length l.values.items ≡ l.k;
  truths : (k : ℕ) → k < l.k → (slice_index_or l.values.items k false ≡ true) ↔ IsFollowing l.facts (has_truth (atom_at l.facts k) true);
}
