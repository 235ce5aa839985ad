use Rattle.sp_headline.proofs.Refused.{refused_lines}
use Rattle.sp_headline.proofs.refused_lines_law.Goals as goal

pub returns : goal.returns
returns c = refused_lines
