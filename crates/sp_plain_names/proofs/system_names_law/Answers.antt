use Rattle.sp_plain_names.proofs.Systems.{system_names}
use Rattle.sp_plain_names.proofs.system_names_law.Goals as goal

pub returns : goal.returns
returns c = system_names
