use Rattle.sp_effect_laws.proofs.Results.{operation}
use Rattle.sp_effect_laws.proofs.operation_law.Goals as goal

pub returns : goal.returns
returns c = operation
