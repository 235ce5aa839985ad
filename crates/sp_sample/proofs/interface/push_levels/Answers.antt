use Rattle.sp_sample.proofs.Joined.{joined, two_joined}
use Rattle.sp_sample.proofs.interface.push_levels.Goals as goal

pub returns : goal.returns
returns c =
    two_joined c.push_numbered-4.result _ _ _ _ (joined _ _ _ _ _ (joined _ _ _ _ _ c.in_ok-push_numbered.ensures c.in_ok-push_numbered-2.ensures) c.in_ok-push_numbered-3.ensures) _ c.push_numbered-4.ensures
