use Rattle.sp_core.proofs.Steps.{step_or_conflict}
use Rattle.sp_core.proofs.laws.outcome_law.Goals as goal

pub returns : goal.returns
returns c = step_or_conflict
