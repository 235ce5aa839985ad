use Rattle.sp_reads.proofs.ReadLaws.{clear}
use Rattle.sp_reads.proofs.clear_law.Goals as goal

pub returns : goal.returns
returns c = clear
