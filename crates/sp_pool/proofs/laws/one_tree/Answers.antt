use Rattle.sp_pool.proofs.TreeLaws.{one_tree}
use Rattle.sp_pool.proofs.laws.one_tree.Goals as goal

pub returns : goal.returns
returns c = λ nodes pool i held. one_tree nodes pool i held
