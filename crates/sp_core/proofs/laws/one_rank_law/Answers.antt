use Rattle.sp_core.proofs.Steps.{one_rank_made}
use Rattle.sp_core.proofs.laws.one_rank_law.Goals as goal

pub returns : goal.returns
returns c = λ as' plain m s i t. one_rank_made m s i as' plain t
