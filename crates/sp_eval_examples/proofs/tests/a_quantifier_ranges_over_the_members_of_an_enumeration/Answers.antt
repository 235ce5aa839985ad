use Rattle.sp_eval_examples.proofs.ClearanceLemmas.{each_is_red_fine}
use Rattle.sp_eval_examples.proofs.tests.a_quantifier_ranges_over_the_members_of_an_enumeration.Goals as goal

pub truth-requires-clause-sentence : goal.truth-requires-clause-sentence
truth-requires-clause-sentence g c = each_is_red_fine c.in_ok-spec.spec c.in_ok-spec.ensures c.in_ok-each_is_red.each_is_red c.in_ok-each_is_red.ensures
