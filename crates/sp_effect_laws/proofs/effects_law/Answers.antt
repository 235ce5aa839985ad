use Rattle.sp_effect_laws.proofs.Results.{effects_of}
use Rattle.sp_effect_laws.proofs.effects_law.Goals as goal

pub returns : goal.returns
returns c = effects_of
