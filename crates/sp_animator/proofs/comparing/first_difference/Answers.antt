use Rattle.std.proofs.Common.{◌≡◌, ◌+◌, refl, sym, ◌∙◌, subst, arith, suc, length}
use Rattle.sp_core.specs.Instances.{filling_of, machine_of}
use Rattle.sp_core.specs.Machine.{IsInvocation}
use Rattle.sp_animator.proofs.RunLemmas.{call_at}
use Rattle.sp_animator.proofs.CompareLemmas.{AreSameBefore, all_same, kept_within, other_next, same_next, there_at}
use Rattle.sp_animator.proofs.comparing.first_difference.Goals as goal

pub loop-at-init : goal.loop-at-init
loop-at-init c = record { kept = refl; same = refl }

pub compare_one-requires : goal.compare_one-requires
compare_one-requires c e =
    let m = machine_of c.args.spec.now (filling_of c.args.inst.now) in
    let list = c.args.list.now in
    let there = there_at list c.loop-at.at c.index-list-at.result (omega arith) c.index-list-at.is in
    let within = kept_within m c.args.bound list c.loop-at.at c.index-list-at.result there (sym c.is_at_or_below-is_kept.ensures ∙ e) in
    omega (arith, within, c.loop-at.invariant.kept, c.requires.purged)

pub loop-at-preserved : goal.loop-at-preserved
loop-at-preserved c =
    let m = machine_of c.args.spec.now (filling_of c.args.inst.now) in
    let list = c.args.list.now in
    let there = there_at list c.loop-at.at c.index-list-at.result (omega arith) c.index-list-at.is in
    let more : suc c.loop-at.at ≡ c.loop-at.at + 1 = omega arith in
    subst (λ k. AreSameBefore m c.args.bound list c.args.whole.now c.args.purged.now k c.in-Ok.next) more
    (same_next m c.args.bound list c.args.whole.now c.args.purged.now c.loop-at.at c.loop-at.kept c.index-list-at.result c.answer_at-answer.result c.in-Ok.next c.loop-at.invariant there c.answer_at-answer.ensures
    c.is_at_or_below-is_kept.result c.is_at_or_below-is_kept.ensures c.in-Ok.ensures.same)

pub returns-in-Err : goal.returns-in-Err
returns-in-Err c =
    let m = machine_of c.args.spec.now (filling_of c.args.inst.now) in
    let list = c.args.list.now in
    let there = there_at list c.loop-at.at c.index-list-at.result (omega arith) c.index-list-at.is in
    other_next m c.args.bound list c.args.whole.now c.args.purged.now c.loop-at.at c.loop-at.kept c.index-list-at.result c.answer_at-answer.result c.in-Err.other c.loop-at.invariant there c.answer_at-answer.ensures
    c.is_at_or_below-is_kept.result c.is_at_or_below-is_kept.ensures c.in-Err.ensures.differ

pub returns : goal.returns
returns c =
    let m = machine_of c.args.spec.now (filling_of c.args.inst.now) in
    let end : c.loop-at.at ≡ length c.args.list.now = omega arith in
    all_same m c.args.bound c.args.list.now c.args.whole.now c.args.purged.now c.loop-at.kept c.requires.whole c.requires.purged c.loop-at.at end c.loop-at.invariant

pub is_at_or_below-is_kept-requires-clause-invocation : goal.is_at_or_below-is_kept-requires-clause-invocation
is_at_or_below-is_kept-requires-clause-invocation c =
    let m = machine_of c.args.spec.now (filling_of c.args.inst.now) in
    call_at (IsInvocation m) c.args.list.now c.loop-at.at c.index-list-at.result c.requires.invocations (there_at c.args.list.now c.loop-at.at c.index-list-at.result (omega arith) c.index-list-at.is)
