use Rattle.sp_core.proofs.TreeLemmas.{tree_lemmas}
use Rattle.sp_map_formulas_tests.proofs.theorems.paths_are_assumed.Goals as goal

pub returns : goal.returns
returns c = λ o. simp tree_lemmas
