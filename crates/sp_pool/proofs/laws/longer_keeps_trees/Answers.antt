use Rattle.sp_pool.proofs.TreeLaws.{longer_keeps_trees}
use Rattle.sp_pool.proofs.laws.longer_keeps_trees.Goals as goal

pub returns : goal.returns
returns c = λ nodes others pool. longer_keeps_trees nodes others pool
