use Rattle.sp_eval_examples.proofs.ClearanceLemmas.{new_pool_typed, old_pool_typed, pool_state}
use Rattle.sp_eval_examples.proofs.tests.a_new_value_is_read_from_the_changes_and_an_old_one_is_not.Goals as goal

pub over_changes-requires-clause-changes : goal.over_changes-requires-clause-changes
over_changes-requires-clause-changes g c = pool_state c.in_ok-spec.spec c.in_ok-spec.ensures c.in_ok-inst.inst _ c.in_ok-changes.ensures

pub over_changes-requires-clause-typed : goal.over_changes-requires-clause-typed
over_changes-requires-clause-typed g c = new_pool_typed c.in_ok-spec.spec c.in_ok-spec.ensures c.in_ok-inst.inst c.new_pool-new.result c.new_pool-new.ensures

pub over_changes-requires-2-clause-changes : goal.over_changes-requires-2-clause-changes
over_changes-requires-2-clause-changes g c = pool_state c.in_ok-spec.spec c.in_ok-spec.ensures c.in_ok-inst.inst _ c.in_ok-changes.ensures

pub over_changes-requires-2-clause-typed : goal.over_changes-requires-2-clause-typed
over_changes-requires-2-clause-typed g c = old_pool_typed c.in_ok-spec.spec c.in_ok-spec.ensures c.in_ok-inst.inst c.look_at-old.result c.look_at-old.ensures
