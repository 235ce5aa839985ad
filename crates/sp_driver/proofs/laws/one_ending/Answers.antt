use Rattle.sp_driver.proofs.Commands.{once}
use Rattle.sp_driver.proofs.laws.one_ending.Goals as goal

pub returns : goal.returns
returns c = λ words files a b p q. once c.command_law.ensures files words a b p q
