use Rattle.sp_core.proofs.TreeLemmas.{effect_lemmas, tree_lemmas}
use Rattle.sp_formulas_tests.proofs.theorems.new_values_flow.Goals as goal

pub returns : goal.returns
returns c = λ o. simp (tree_lemmas, effect_lemmas)
