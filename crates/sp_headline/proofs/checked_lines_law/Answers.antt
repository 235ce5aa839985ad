use Rattle.sp_headline.proofs.Checked.{checked_lines}
use Rattle.sp_headline.proofs.checked_lines_law.Goals as goal

pub returns : goal.returns
returns c = checked_lines c.accepted_law.ensures
