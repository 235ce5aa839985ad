use Rattle.sp_formulas_tests.proofs.WorkedLemmas.{switches_are}
use Rattle.sp_formulas_tests.proofs.theorems.changes_agree.Goals as goal

pub returns : goal.returns
returns c = switches_are
