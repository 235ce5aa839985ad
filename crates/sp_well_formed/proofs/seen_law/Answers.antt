use Rattle.sp_well_formed.proofs.Whole.{seen}
use Rattle.sp_well_formed.proofs.seen_law.Goals as goal

pub returns : goal.returns
returns c = λ i ms bottom top p none levels ends defined rest meant k. seen c.found_are_lent.ensures i ms bottom top p none levels ends defined rest meant k
