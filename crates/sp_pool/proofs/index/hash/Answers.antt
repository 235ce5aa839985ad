use Rattle.std.proofs.Common.{◌+◌, ◌*◌, ◌%◌, fold, ap, ◌∙◌, arith}
use Rattle.std.proofs.lemmas.List.{take_all}
use Rattle.sp_pool.specs.Index.{hash}
use Rattle.sp_pool.proofs.index.hash.Goals as goal

pub returns-clause-hash : goal.returns-clause-hash
unfolding hash
returns-clause-hash c = c.loop-word.invariant.folded ∙ ap (fold (λ hash word. (hash * 33 + word) % 1024) 0) (take_all c.loop-word.word-index c.args.words.now (omega arith))
