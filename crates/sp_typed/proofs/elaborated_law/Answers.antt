use Rattle.sp_typed.proofs.Elaborated.{elaborated}
use Rattle.sp_typed.proofs.elaborated_law.Goals as goal

pub returns : goal.returns
returns c = elaborated
