use Rattle.sp_expand.proofs.SizePut.{size-put}
use Rattle.sp_expand.proofs.laws.put_size_law.Goals as goal

pub returns : goal.returns
returns c = size-put
