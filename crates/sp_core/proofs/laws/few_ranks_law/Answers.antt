use Rattle.sp_core.proofs.RankLemmas.{few_ranks}
use Rattle.sp_core.proofs.laws.few_ranks_law.Goals as goal

pub returns : goal.returns
returns c = few_ranks
