use Rattle.sp_rules.specs.Facts.{is_one_of}
use Rattle.sp_checker.specs.Known.{judge}
use Rattle.sp_checker.proofs.Spelled.{lifted_is_spelled}
use Rattle.sp_checker.proofs.laws.lifted_is_spelled.Goals as goal

pub returns : goal.returns
returns c = λ q depth t g e. lifted_is_spelled (judge q.terms q.atoms) (is_one_of q.given) depth t g e
