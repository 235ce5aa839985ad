use Rattle.std.proofs.Common.{sym, ◌∙◌}
use Rattle.sp_text.specs.Violations.{sooner}
use Rattle.sp_text.proofs.Firsts.{first_by_none}
use Rattle.sp_mapping.proofs.mapping.unless.Goals as goal

pub returns-in-None : goal.returns-in-None
returns-in-None c vs whole h e = (first_by_none sooner vs (sym h ∙ c.in-None.is), e)
