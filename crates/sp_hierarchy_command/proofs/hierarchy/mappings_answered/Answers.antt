use Rattle.sp_hierarchy_command.proofs.hierarchy.mappings_answered.Goals as goal

pub answer_mappings-requires : goal.answer_mappings-requires
answer_mappings-requires c = rw (c.items.ensures, c.items-2.ensures) c.requires
