use Rattle.sp_effect_laws.proofs.Results.{both}
use Rattle.sp_effect_laws.proofs.both_law.Goals as goal

pub returns : goal.returns
returns c = both
