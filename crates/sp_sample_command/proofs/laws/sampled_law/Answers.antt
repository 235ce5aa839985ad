use Rattle.sp_sample_command.proofs.Accepted.{sampled_secure}
use Rattle.sp_sample_command.proofs.laws.sampled_law.Goals as goal

pub returns : goal.returns
returns c = sampled_secure c.proved_law.ensures
