use Rattle.sp_sequent.specs.Claims.{question_of}
use Rattle.sp_verdicts.proofs.laws.certified_are_closed.Goals as goal

pub returns : goal.returns
returns c = λ p k t e. c.checked_means_closed.ensures (question_of p k) t e
