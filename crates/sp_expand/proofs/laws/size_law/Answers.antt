use Rattle.sp_expand.proofs.Limits.{size-is}
use Rattle.sp_expand.proofs.laws.size_law.Goals as goal

pub returns : goal.returns
returns c = size-is
