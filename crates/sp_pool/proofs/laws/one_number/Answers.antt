use Rattle.sp_pool.proofs.TreeLaws.{one_number}
use Rattle.sp_pool.proofs.laws.one_number.Goals as goal

pub returns : goal.returns
returns c = λ nodes pool t i j a b. one_number nodes pool t i j a b
