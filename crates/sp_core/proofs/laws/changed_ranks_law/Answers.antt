use Rattle.sp_core.proofs.RankLemmas.{rank_below_changed}
use Rattle.sp_core.proofs.laws.changed_ranks_law.Goals as goal

pub returns : goal.returns
returns c = rank_below_changed
