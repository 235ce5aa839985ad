use Rattle.std.proofs.Common.{◌≡◌, ◌+◌, ◌++◌, ◌∷◌, [], sym, ◌∙◌, ap, arith, subst, suc, take}
use Rattle.std.specs.Prelude.{if◌then◌else◌}
use Rattle.sp_core.specs.Instances.{filling_of, machine_of}
use Rattle.sp_core.specs.Machine.{IsInvocation}
use Rattle.sp_core.specs.Security as security
use Rattle.sp_core.specs.Security.{is_seen}
use Rattle.sp_animator.proofs.Purges.{purge_next}
use Rattle.sp_animator.proofs.purging.purge.Goals as goal

pub keep-requires-clause-invocation : goal.keep-requires-clause-invocation
keep-requires-clause-invocation c =
    subst (IsInvocation (machine_of c.args.spec.now (filling_of c.args.inst.now))) (sym c.i-item.is) (c.requires.invocations c.loop-i.i-index c.i-item.result c.loop-i-test.true)

pub loop-i-preserved : goal.loop-i-preserved
loop-i-preserved c =
    let m = machine_of c.args.spec.now (filling_of c.args.inst.now) in
    let more : suc c.loop-i.i-index ≡ c.loop-i.i-index + 1 = omega arith in
    c.in_ok-keep.ensures ∙ ap (λ xs. xs ++ (if is_seen m c.args.bound c.i-item.result then c.i-item.result ∷ [] else [])) c.loop-i.invariant
    ∙ sym (purge_next m c.args.bound c.args.list.now c.loop-i.i-index c.i-item.result c.loop-i-test.true c.i-item.is)
    ∙ ap (λ n. security.purge m c.args.bound (take n c.args.list.now)) more
