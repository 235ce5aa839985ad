use Rattle.sp_mapping_laws.proofs.Whole.{law}
use Rattle.sp_mapping_laws.proofs.mapping_law.Goals as goal

pub returns : goal.returns
returns c = law c.found_are_lent.ensures c.lent_are_found.ensures c.seen_law.ensures
