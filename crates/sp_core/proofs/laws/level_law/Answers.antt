use Rattle.sp_core.proofs.Levels.{level_is}
use Rattle.sp_core.proofs.laws.level_law.Goals as goal

pub returns : goal.returns
returns c = λ p i wf inst. level_is p i wf inst
