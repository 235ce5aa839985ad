use Rattle.sp_headline.proofs.Sampled.{sampled_lines}
use Rattle.sp_headline.proofs.sampled_lines_law.Goals as goal

pub returns : goal.returns
returns c = sampled_lines c.sampled_law.ensures
