use Rattle.sp_core.proofs.TreeLemmas.{tree_lemmas}
use Rattle.sp_formulas_tests.proofs.theorems.assertions_are_shielded.Goals as goal

pub returns : goal.returns
returns c = λ o. simp tree_lemmas
