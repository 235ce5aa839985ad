use Rattle.sp_eval_examples.proofs.ClearanceInstances.{base_is_high_fits}
use Rattle.sp_eval_examples.proofs.tests.base_is_high.Goals as goal

pub instance_of-requires : goal.instance_of-requires
instance_of-requires c = rw (c.in_ok-users.ensures, c.everywhere.ensures, c.everywhere-2.ensures) (base_is_high_fits c.args.spec.now c.requires)
