use Rattle.std.proofs.Common.{◌≡◌, ℕ, ◌+◌, ◌^◌, ◌<◌, length, slice_index}
use Rattle.sp_pool.specs.Nodes.{arg_of}
use Rattle.sp_pool.proofs.spelling.Spelling.of.Given as goal

abbrev pub invariant-loop-place : goal.invariant-loop-place
invariant-loop-place l = record {
  twelve : length l.words ≡ 12;
  tag : slice_index l.words 0 ≡ l.tag;
  first : slice_index l.words 1 ≡ l.first;
  second : slice_index l.words 2 ≡ l.second;
  args : (k : ℕ) → k < l.place → slice_index l.words (k + 3) ≡ arg_of l.node k;
  small : (k : ℕ) → k < l.place → arg_of l.node k < 2 ^ 16;
}
