use Rattle.sp_verify_command.proofs.Accepted.{verified_secure}
use Rattle.sp_verify_command.proofs.laws.verified_law.Goals as goal

pub returns : goal.returns
returns c = verified_secure c.certified_are_closed.ensures c.secured_law.ensures
