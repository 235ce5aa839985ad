use Rattle.sp_core.proofs.Fronts.{value_front}
use Rattle.sp_core.proofs.laws.front_law.Goals as goal

pub returns : goal.returns
returns c = λ w old new sg xs x behind e t long h. value_front w old new sg xs x behind long e t h
