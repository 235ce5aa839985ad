use Rattle.std.proofs.Common.{sym, ◌∙◌, ap, arith, ◌+◌, ◌++◌, ◌∷◌, [], map, take, length}
use Rattle.sp_judge.proofs.Scoped.{weight-part, binders-part}
use Rattle.sp_reads.proofs.Lists.{lists-next}
use Rattle.sp_reads.proofs.texts.+judge_reads.Goals as goal

pub firsts_of-judge_reads-requires : goal.firsts_of-judge_reads-requires
firsts_of-judge_reads-requires t c = (
  omega (arith, weight-part c.args.args.now c.loop-arg.arg-index c.arg-item.result c.loop-arg-test.true c.arg-item.is),
  omega (arith, c.requires, binders-part c.args.args.now c.loop-arg.arg-index c.arg-item.result c.loop-arg-test.true c.arg-item.is),
)

pub firsts_of-loop-arg-preserved : goal.firsts_of-loop-arg-preserved
firsts_of-loop-arg-preserved t c =
    c.in_ok-push.ensures.items ∙ (λ i. c.loop-arg.invariant i ++ c.in_ok-judge_reads.ensures i ∷ [])
    ∙ sym (lists-next c.args.scope.now c.args.flags.now c.args.rule c.args.locals.now c.args.args.now c.loop-arg.arg-index c.arg-item.result c.loop-arg-test.true c.arg-item.is)
