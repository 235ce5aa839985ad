use Rattle.std.proofs.Common.{◌≡◌, ℕ, ◌+◌, ◌<◌, get_or, length, slice_index}
use Rattle.sp_pool.specs.Nodes.{term}
use Rattle.sp_pool.specs.Spelling.{short}
use Rattle.sp_pool.proofs.spelling.node_of.Given as goal

abbrev pub invariant-loop-place : goal.invariant-loop-place
invariant-loop-place l = record {
  eight : length l.args ≡ 8;
  filled : (k : ℕ) → k < l.place → get_or l.args k (term 0) ≡ term (short (slice_index l.words (k + 3)));
}
