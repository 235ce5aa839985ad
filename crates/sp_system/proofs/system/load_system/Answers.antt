use Rattle.sp_sorts.proofs.Names.{module_names, sample_name}
use Rattle.sp_system.proofs.system.load_system.Goals as goal

pub modules_of-requires : goal.modules_of-requires
modules_of-requires g c = module_names _ c.in_ok-interface.ensures.reading

pub read_named_tree-requires : goal.read_named_tree-requires
read_named_tree-requires g c = sample_name _ c.in_ok-interface.ensures.reading
