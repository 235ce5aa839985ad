use Rattle.std.proofs.Common.{List, false, subst}
use Rattle.sp_core.specs.declared.state.Entry.{Entry}
use Rattle.sp_core.specs.Instances.{filling_of, machine_of}
use Rattle.sp_core.specs.States.{entry_of}
use Rattle.sp_animator.specs.Comparing.{Ends, IsWholeFault}
use Rattle.sp_animator.proofs.RunLemmas.{whole_fault}
use Rattle.sp_animator.proofs.comparing.animate_whole.Goals as goal

pub returns-in-Ok-animate-clause-run : goal.returns-in-Ok-animate-clause-run
returns-in-Ok-animate-clause-run c =
    let m = machine_of c.args.spec.now (filling_of c.args.inst.now) in
    subst (λ (es : List Entry). Ends m (entry_of es) c.args.list.now c.in-Ok-animate.answers.items) c.in-Ok.ensures (entry_of c.animate.new.state.entries, c.in-Ok-animate.ensures.run)

pub returns-clause-fault : goal.returns-clause-fault
returns-clause-fault c =
    let m = machine_of c.args.spec.now (filling_of c.args.inst.now) in
    subst (λ (es : List Entry). IsWholeFault m (entry_of es) c.args.list.now (record { purged = false; at = c.in-Err.broken.at; fault = c.in-Err.broken.fault })) c.in-Ok.ensures
    (whole_fault m (entry_of c.in-Ok.state.entries) c.args.list.now c.in-Err.broken (entry_of c.animate.new.state.entries) c.in-Err.ensures.fault)
