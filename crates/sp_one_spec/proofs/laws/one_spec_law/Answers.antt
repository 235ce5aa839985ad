use Rattle.sp_one_spec.proofs.Whole.{one_spec}
use Rattle.sp_one_spec.proofs.laws.one_spec_law.Goals as goal

pub returns : goal.returns
returns c = one_spec
