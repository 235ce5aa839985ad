use Rattle.std.proofs.Common.{rules, SFits, ◌+◌, w64, refl, arith}
use Rattle.std.proofs.lemmas.Int.{ints}
use Rattle.sp_expression.proofs.Leaves.{no_digits, negative_whole}
use Rattle.sp_expression.proofs.leaf.negative.Goals as goal

pub returns-in_default-clause-reads : goal.returns-in_default-clause-reads
returns-in_default-clause-reads c = rw c.unexpected.ensures (c.args.start + 1, no_digits c.args.tokens.now c.args.start (c.args.start + 1) (omega arith) c.requires.opens c.in_default.ensures.none, refl)

pub returns-clause-reads : goal.returns-clause-reads
returns-clause-reads c =
    rw (c.tree.ensures, c.opposite.ensures) (negative_whole c.args.tokens.now c.args.start (c.args.start + 1) (c.args.start + 2) c.in-Some.number _ (omega arith) (omega arith) c.requires.opens c.in-Some.ensures.some
    (let f : SFits w64 c.in-Some.number = search rules in omega (arith, ints)))
