use Rattle.std.proofs.Common.{◌+◌, ◌∷◌, ◌++◌, [], List, sym, ◌∙◌, ap, subst, arith, inr, take}
use Rattle.sp_values.specs.declared.place.Invocation.{Invocation}
use Rattle.sp_core.specs.declared.function.Answer.{Answer}
use Rattle.sp_core.specs.Instances.{filling_of, machine_of}
use Rattle.sp_core.specs.States.{entry_of}
use Rattle.sp_animator.specs.Runs.{RunsWithin}
use Rattle.sp_core.specs.declared.state.Entry.{Entry}
use Rattle.sp_core.specs.Machine.{IsInvocation}
use Rattle.sp_stepping.specs.Stepping.{IsStepFault}
use Rattle.sp_animator.proofs.CompareLemmas.{there_at}
use Rattle.sp_animator.proofs.RunLemmas.{call_at, run_one_more, taken_next}
use Rattle.sp_animator.proofs.running.animate.Goals as goal

pub loop-at-preserved : goal.loop-at-preserved
loop-at-preserved c =
    let m = machine_of c.args.spec.now (filling_of c.args.inst.now) in
    let s = entry_of c.args.state.now.entries in
    let list = c.args.list.now in
    let t = entry_of c.loop-at.state.entries in
    let u = entry_of c.step.new.state.entries in
    let more = taken_next m list c.loop-at.at c.index-list-at.result (omega arith) c.index-list-at.is in
    record {
      run =
          subst (λ (xs : List Answer). RunsWithin m s (take (c.loop-at.at + 1) list) xs u) (sym c.push_reserved.ensures.items)
          (subst (λ (is' : List Invocation). RunsWithin m s is' (c.loop-at.answers.items ++ c.in-Ok-step.answer ∷ []) u) (sym more)
          (run_one_more m (take c.loop-at.at list) s t u c.loop-at.answers.items c.index-list-at.result c.in-Ok-step.answer c.loop-at.invariant.run c.in-Ok-step.ensures.step));
      state = c.step.ensures.state;
      answers = c.push_reserved.ensures.len ∙ ap (λ n. n + 1) c.loop-at.invariant.answers;
      room = c.push_reserved.ensures.capacity ∙ c.loop-at.invariant.room;
    }

pub step-requires-clause-invocation : goal.step-requires-clause-invocation
step-requires-clause-invocation c =
    let m = machine_of c.args.spec.now (filling_of c.args.inst.now) in
    call_at (IsInvocation m) c.args.list.now c.loop-at.at c.index-list-at.result c.requires.invocations (there_at c.args.list.now c.loop-at.at c.index-list-at.result (omega arith) c.index-list-at.is)

pub returns-in-Err-clause-fault : goal.returns-in-Err-clause-fault
returns-in-Err-clause-fault c =
    let m = machine_of c.args.spec.now (filling_of c.args.inst.now) in
    let s = entry_of c.args.state.now.entries in
    let list = c.args.list.now in
    record {
      run = subst (λ (xs : List Answer). RunsWithin m s (take c.loop-at.at list) xs (entry_of c.step.new.state.entries)) (sym c.new-in-Err.ensures)
          (subst (λ (es : List Entry). RunsWithin m s (take c.loop-at.at list) c.loop-at.answers.items (entry_of es)) (sym c.in-Err.ensures.same) c.loop-at.invariant.run);
      next = inr (
        c.index-list-at.result,
        record {
          there = there_at list c.loop-at.at c.index-list-at.result (omega arith) c.index-list-at.is;
          fault = subst (λ (es : List Entry). IsStepFault m (entry_of es) c.index-list-at.result c.in-Err.fault) (sym c.in-Err.ensures.same) c.in-Err.ensures.fault;
        },
      );
    }
