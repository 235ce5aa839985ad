use Rattle.sp_eval_examples.proofs.ClearanceLemmas.{seen_is_read}
use Rattle.sp_eval_examples.proofs.tests.seen_value.Goals as goal

pub read-requires-clause-read : goal.read-requires-clause-read
read-requires-clause-read c = seen_is_read c.args.spec.now c.requires.spec c.args.inst.now c.first_user.result c.requires.users c.first_user.ensures
