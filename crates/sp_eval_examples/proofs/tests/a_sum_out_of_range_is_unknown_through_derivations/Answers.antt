use Rattle.sp_eval_examples.proofs.ClearanceLemmas.{eq_is_read, le_is_read, max_is_read}
use Rattle.sp_eval_examples.proofs.tests.a_sum_out_of_range_is_unknown_through_derivations.Goals as goal

pub read-requires-clause-read : goal.read-requires-clause-read
read-requires-clause-read g c = max_is_read c.in_ok-spec.spec c.in_ok-spec.ensures c.in_ok-inst.inst c.new.result c.new.ensures

pub read-requires-2-clause-read : goal.read-requires-2-clause-read
read-requires-2-clause-read g c = le_is_read c.in_ok-spec.spec c.in_ok-spec.ensures c.in_ok-inst.inst c.new-2.result c.new-2.ensures

pub read-requires-3-clause-read : goal.read-requires-3-clause-read
read-requires-3-clause-read g c = eq_is_read c.in_ok-spec.spec c.in_ok-spec.ensures c.in_ok-inst.inst c.new-3.result c.new-3.ensures
