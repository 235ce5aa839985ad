use Rattle.std.proofs.Common.{◌≡◌, subst, arith, List, take}
use Rattle.sp_core.specs.Instances.{filling_of, machine_of}
use Rattle.sp_core.specs.Machine.{IsInvocation}
use Rattle.sp_core.specs.Security as security
use Rattle.sp_values.specs.declared.place.Invocation.{Invocation}
use Rattle.sp_animator.specs.Runs.{RunsWithin}
use Rattle.sp_core.specs.States.{entry_of}
use Rattle.sp_animator.proofs.CompareLemmas.{take_all, there_at}
use Rattle.sp_animator.proofs.RunLemmas.{broken_off, call_at, kept_run_next}
use Rattle.sp_animator.proofs.comparing.animate_kept.Goals as goal

pub loop-at-preserved : goal.loop-at-preserved
loop-at-preserved c =
    let m = machine_of c.args.spec.now (filling_of c.args.inst.now) in
    let list = c.args.list.now in record {
      run = kept_run_next m c.args.bound list (entry_of c.args.state.now.entries) (entry_of c.loop-at.state.entries) (entry_of c.answer_kept.new.state.entries) c.loop-at.at c.index-list-at.result (omega arith) c.index-list-at.is
          c.loop-at.answers.items c.answer_kept.new.answers.items c.loop-at.invariant.run c.in-Ok.ensures.answered;
      state = c.answer_kept.ensures.state;
    }

pub returns-in-Err-clause-fault : goal.returns-in-Err-clause-fault
returns-in-Err-clause-fault c =
    let m = machine_of c.args.spec.now (filling_of c.args.inst.now) in
    let list = c.args.list.now in
    broken_off m c.args.bound list (entry_of c.args.state.now.entries) (entry_of c.loop-at.state.entries) c.loop-at.at c.index-list-at.result (there_at list c.loop-at.at c.index-list-at.result (omega arith) c.index-list-at.is)
    c.loop-at.answers.items c.loop-at.invariant.run c.in-Err.fault c.in-Err.ensures.fault

pub answer_kept-requires-clause-invocation : goal.answer_kept-requires-clause-invocation
answer_kept-requires-clause-invocation c =
    let m = machine_of c.args.spec.now (filling_of c.args.inst.now) in
    call_at (IsInvocation m) c.args.list.now c.loop-at.at c.index-list-at.result c.requires.invocations (there_at c.args.list.now c.loop-at.at c.index-list-at.result (omega arith) c.index-list-at.is)

pub returns-clause-run : goal.returns-clause-run
returns-clause-run c =
    let m = machine_of c.args.spec.now (filling_of c.args.inst.now) in
    let all : take c.loop-at.at c.args.list.now ≡ c.args.list.now = take_all c.args.list.now c.loop-at.at (omega arith) in
    (entry_of c.loop-at.state.entries, subst (λ (is' : List Invocation). RunsWithin m (entry_of c.args.state.now.entries) (security.purge m c.args.bound is') c.loop-at.answers.items (entry_of c.loop-at.state.entries)) all c.loop-at.invariant.run)
