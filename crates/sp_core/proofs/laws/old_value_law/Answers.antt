use Rattle.sp_core.proofs.Agree.{value_no_new}
use Rattle.sp_core.proofs.laws.old_value_law.Goals as goal

pub returns : goal.returns
returns c = λ w old new other x e h. value_no_new w old new other e x h
