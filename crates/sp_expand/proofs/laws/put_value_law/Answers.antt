use Rattle.sp_expand.proofs.PutValued.{value-put}
use Rattle.sp_expand.proofs.laws.put_value_law.Goals as goal

pub returns : goal.returns
returns c = value-put
