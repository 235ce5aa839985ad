use Rattle.sp_prove_command.proofs.Specified.{certified_specified}
use Rattle.sp_prove_command.proofs.laws.certified_law.Goals as goal

pub returns : goal.returns
returns c = certified_specified
