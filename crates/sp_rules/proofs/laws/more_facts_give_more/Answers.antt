use Rattle.sp_rules.proofs.Steps.{follows_more}
use Rattle.sp_rules.proofs.laws.more_facts_give_more.Goals as goal

pub returns : goal.returns
returns c = λ ts g h more f follows. follows_more ts g h more f follows
