use Rattle.sp_core.proofs.RankLemmas.{is_rank}
use Rattle.sp_core.proofs.laws.rank_law.Goals as goal

pub returns : goal.returns
returns c = is_rank
