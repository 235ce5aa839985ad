use Rattle.sp_functions.proofs.Known.{level}
use Rattle.sp_functions.proofs.level_law.Goals as goal

pub returns : goal.returns
returns c = level
