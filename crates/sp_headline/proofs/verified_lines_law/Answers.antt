use Rattle.sp_headline.proofs.Verified.{verified_lines}
use Rattle.sp_headline.proofs.verified_lines_law.Goals as goal

pub returns : goal.returns
returns c = verified_lines c.verified_law.ensures
