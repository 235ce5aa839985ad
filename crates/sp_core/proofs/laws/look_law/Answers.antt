use Rattle.sp_core.proofs.Looks.{look_is}
use Rattle.sp_core.proofs.Types.{ordered_functions}
use Rattle.sp_core.proofs.laws.look_law.Goals as goal

pub returns : goal.returns
returns c = λ p wf w s g v. look_is w p.functions (ordered_functions p wf) s g v
