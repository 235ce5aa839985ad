use Rattle.std.proofs.Common.{List, subst, sym}
use Rattle.std.specs.List.{All}
use Rattle.sp_values.specs.declared.place.Invocation.{Invocation}
use Rattle.sp_core.specs.Instances.{filling_of, machine_of}
use Rattle.sp_core.specs.Machine.{IsInvocation}
use Rattle.sp_run_command.proofs.texts.script_of.Goals as goal

pub returns-in-Ok-clause-invocations : goal.returns-in-Ok-clause-invocations
returns-in-Ok-clause-invocations c =
    subst (λ (js : List Invocation). All (IsInvocation (machine_of c.args.spec.now (filling_of c.args.instance.now))) js) (sym c.new.ensures) c.in-Ok.ensures.invocations
