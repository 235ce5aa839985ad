use Rattle.sp_cycles.proofs.Chains.{chain}
use Rattle.sp_cycles.proofs.laws.chain_law.Goals as goal

pub returns : goal.returns
returns c = chain
