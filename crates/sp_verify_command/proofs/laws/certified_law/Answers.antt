use Rattle.sp_verify_command.proofs.Accepted.{certified_accepted}
use Rattle.sp_verify_command.proofs.laws.certified_law.Goals as goal

pub returns : goal.returns
returns c = certified_accepted
