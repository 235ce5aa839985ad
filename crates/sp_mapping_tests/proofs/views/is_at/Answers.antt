use Rattle.sp_mapping_tests.proofs.Rows.{level_typed}
use Rattle.sp_mapping_tests.proofs.views.is_at.Goals as goal

pub eval-requires-clause-typed : goal.eval-requires-clause-typed
eval-requires-clause-typed c = level_typed c.args.lower.now c.args.inst.now c.args.row.now c.args.args.now c.new.result c.requires.row c.requires.typed c.new.ensures
