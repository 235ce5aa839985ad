use Rattle.sp_one_spec.proofs.Whole.{one_answer}
use Rattle.sp_one_spec.proofs.laws.one_answer_law.Goals as goal

pub returns : goal.returns
returns c = one_answer
