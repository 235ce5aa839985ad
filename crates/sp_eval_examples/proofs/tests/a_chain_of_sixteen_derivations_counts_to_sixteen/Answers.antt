use Rattle.sp_eval_examples.proofs.CountingLemmas.{last_is_read}
use Rattle.sp_eval_examples.proofs.tests.a_chain_of_sixteen_derivations_counts_to_sixteen.Goals as goal

pub read-requires-clause-read : goal.read-requires-clause-read
read-requires-clause-read g c = last_is_read c.in_ok-spec.spec c.in_ok-spec.ensures c.no_instance-inst.result c.new.result c.new.ensures
