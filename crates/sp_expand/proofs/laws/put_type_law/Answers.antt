use Rattle.sp_expand.proofs.PutTyped.{put_typed}
use Rattle.sp_expand.proofs.laws.put_type_law.Goals as goal

pub returns : goal.returns
returns c = put_typed
