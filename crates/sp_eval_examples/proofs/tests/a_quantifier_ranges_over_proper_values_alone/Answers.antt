use Rattle.sp_eval_examples.proofs.ClearanceLemmas.{none_is_unknown_fine}
use Rattle.sp_eval_examples.proofs.tests.a_quantifier_ranges_over_proper_values_alone.Goals as goal

pub truth-requires-clause-sentence : goal.truth-requires-clause-sentence
truth-requires-clause-sentence g c = none_is_unknown_fine c.in_ok-spec.spec c.in_ok-spec.ensures c.in_ok-none_is_unknown.none_is_unknown c.in_ok-none_is_unknown.ensures
