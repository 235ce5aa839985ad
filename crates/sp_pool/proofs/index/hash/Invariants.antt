use Rattle.std.proofs.Common.{◌≡◌, ◌+◌, ◌*◌, ◌%◌, ◌<◌, take, fold}
use Rattle.sp_pool.proofs.index.hash.Given as goal

abbrev pub invariant-loop-word : goal.invariant-loop-word
invariant-loop-word l = record {
  within : l.hash < 1024;
  folded : l.hash ≡ fold (λ hash word. (hash * 33 + word) % 1024) 0 (take l.word-index l.words);
}
