use Rattle.sp_sorts.proofs.Names.{row_names}
use Rattle.sp_hierarchy.proofs.texts.load_hierarchy.Goals as goal

pub systems_of-requires : goal.systems_of-requires
systems_of-requires g c = row_names _ c.in_ok-hierarchy.ensures.reading

pub mappings_of-requires : goal.mappings_of-requires
mappings_of-requires g c = row_names _ c.in_ok-hierarchy.ensures.reading
