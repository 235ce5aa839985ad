use Rattle.sp_plain_names.proofs.Specifications.{plain_names}
use Rattle.sp_plain_names.proofs.plain_names_law.Goals as goal

pub returns : goal.returns
returns c = plain_names
