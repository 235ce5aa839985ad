use Rattle.sp_headline.proofs.Refusing.{check_refuses, sample_refuses, verify_refuses}
use Rattle.sp_headline.proofs.refusals_law.Goals as goal

pub returns-clause-check : goal.returns-clause-check
returns-clause-check c = check_refuses

pub returns-clause-verify : goal.returns-clause-verify
returns-clause-verify c = verify_refuses

pub returns-clause-sample : goal.returns-clause-sample
returns-clause-sample c = sample_refuses
