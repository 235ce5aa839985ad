use Rattle.sp_cycles.proofs.Chains.{cycle}
use Rattle.sp_cycles.proofs.laws.cycle_law.Goals as goal

pub returns : goal.returns
returns c = cycle
