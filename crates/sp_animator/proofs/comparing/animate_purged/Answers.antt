use Rattle.std.proofs.Common.{List, subst}
use Rattle.std.specs.Prelude.{IfOk}
use Rattle.sp_core.specs.declared.state.Entry.{Entry}
use Rattle.sp_core.specs.Instances.{filling_of, machine_of}
use Rattle.sp_core.specs.Security as security
use Rattle.sp_core.specs.States.{entry_of}
use Rattle.sp_animator.specs.Comparing.{Ends}
use Rattle.sp_animator.proofs.comparing.animate_purged.Goals as goal

pub returns-clause-run : goal.returns-clause-run
returns-clause-run c =
    let m = machine_of c.args.spec.now (filling_of c.args.inst.now) in
    subst (λ (es : List Entry). IfOk c.animate_kept.result (λ answers. Ends m (entry_of es) (security.purge m c.args.bound c.args.list.now) answers.items)) c.in-Ok.ensures c.animate_kept.ensures.run
