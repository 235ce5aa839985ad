use Rattle.std.proofs.Common.{◌≡◌, subst, sym}
use Rattle.std.specs.List.{All}
use Rattle.sp_core.specs.Instances.{filling_of, machine_of}
use Rattle.sp_core.specs.Machine.{IsInvocation}
use Rattle.sp_animator_tests.proofs.texts.kept_over.Goals as goal

pub purge-requires-clause-invocations : goal.purge-requires-clause-invocations
purge-requires-clause-invocations c =
    subst (All (IsInvocation (machine_of c.args.spec.now (filling_of c.args.inst.now)))) (sym c.as_slice.ensures.value) c.in_ok-list.ensures
