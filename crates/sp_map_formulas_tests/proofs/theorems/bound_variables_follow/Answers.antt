use Rattle.sp_core.proofs.TreeLemmas.{tree_lemmas}
use Rattle.sp_map_formulas_tests.proofs.theorems.bound_variables_follow.Goals as goal

pub returns : goal.returns
returns c = λ o. simp tree_lemmas
