use Rattle.std.proofs.Common.{◌+◌}
use Rattle.sp_bits.proofs.Words.{next_word, word_left}
use Rattle.sp_bits.proofs.is_within.Goals as goal

pub loop-k-preserved : goal.loop-k-preserved
loop-k-preserved c = next_word c.args.words.now c.args.a c.args.b c.loop-k.k (c.type_inv.words (c.args.b + c.loop-k.k)).fits c.if-words-a-ne0.false c.loop-k.invariant

pub returns-then-words-a-ne0-clause-all : goal.returns-then-words-a-ne0-clause-all
returns-then-words-a-ne0-clause-all c = λ all.
    let ws = c.args.words.now in
    let k = c.loop-k.k in
    absurd (c.if-words-a-ne0.true (word_left ws c.args.a c.args.b c.args.width k c.loop-k-test.true (c.type_inv.words (c.args.a + k)).fits (c.type_inv.words (c.args.b + k)).fits all))
