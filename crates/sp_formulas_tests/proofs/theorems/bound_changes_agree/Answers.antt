use Rattle.sp_formulas_tests.proofs.WorkedLemmas.{marks_are}
use Rattle.sp_formulas_tests.proofs.theorems.bound_changes_agree.Goals as goal

pub returns : goal.returns
returns c = marks_are
