use Rattle.sp_eval_examples.proofs.ClearanceLemmas.{seen_is_invoked}
use Rattle.sp_eval_examples.proofs.tests.seen_level.Goals as goal

pub level-requires-clause-invocation : goal.level-requires-clause-invocation
level-requires-clause-invocation c = seen_is_invoked c.args.spec.now c.requires.spec c.args.inst.now c.first_user-args.result c.requires.users c.first_user-args.ensures
