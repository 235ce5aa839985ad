use Rattle.sp_sample.proofs.Joined.{two_joined}
use Rattle.sp_sample.proofs.module.push_read.Goals as goal

pub returns : goal.returns
returns c = two_joined c.push_numbered-2.result _ _ _ _ c.in_ok-push_numbered.ensures _ c.push_numbered-2.ensures
