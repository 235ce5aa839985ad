use Rattle.sp_pool.proofs.TreeLaws.{front_keeps_trees}
use Rattle.sp_pool.proofs.laws.front_keeps_trees.Goals as goal

pub returns : goal.returns
returns c = λ nodes m pool. front_keeps_trees nodes m pool
