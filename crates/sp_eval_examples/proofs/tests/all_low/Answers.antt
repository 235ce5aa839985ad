use Rattle.sp_eval_examples.proofs.ClearanceInstances.{all_low_fits}
use Rattle.sp_eval_examples.proofs.tests.all_low.Goals as goal

pub instance_of-requires : goal.instance_of-requires
instance_of-requires c = rw (c.in_ok-users.ensures, c.everywhere.ensures, c.everywhere-2.ensures) (all_low_fits c.args.spec.now c.requires)
