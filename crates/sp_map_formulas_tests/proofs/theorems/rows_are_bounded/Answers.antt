use Rattle.sp_core.proofs.TreeLemmas.{tree_lemmas}
use Rattle.sp_map_formulas_tests.proofs.theorems.rows_are_bounded.Goals as goal

pub returns : goal.returns
returns c = λ o. (simp tree_lemmas, simp tree_lemmas)
