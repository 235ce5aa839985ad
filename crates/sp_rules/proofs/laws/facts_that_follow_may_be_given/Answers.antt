use Rattle.sp_rules.proofs.Steps.{follows_from}
use Rattle.sp_rules.proofs.laws.facts_that_follow_may_be_given.Goals as goal

pub returns : goal.returns
returns c = λ ts given h each f follows. follows_from ts given h each f follows
