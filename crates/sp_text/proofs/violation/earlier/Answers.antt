use Rattle.std.proofs.Common.{◌∙◌}
use Rattle.sp_text.proofs.Firsts.{first_of_both}
use Rattle.sp_text.proofs.violation.earlier.Goals as goal

pub returns : goal.returns
returns c xs ys h k = c.sooner_of.ensures ∙ first_of_both xs ys c.args.one c.args.other h k
