use Rattle.sp_checker.proofs.Lifting.{lifted_checks}
use Rattle.sp_checker.proofs.laws.lifted_checks.Goals as goal

pub returns : goal.returns
returns c = λ j given t p e. lifted_checks j given t p e
