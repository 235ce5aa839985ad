use Rattle.std.proofs.Common.{drop}
use Rattle.sp_tree.specs.declared.names.Ident.{Ident}
use Rattle.sp_frame.proofs.Lists.{LoadsFirst}
use Rattle.sp_hierarchy.specs.Texts.{MappingRead}
use Rattle.sp_hierarchy.proofs.texts.load_mappings.Given as goal

-- the mappings so far are loaded, and so all are where those that are left are
abbrev pub invariant-loop-row : goal.invariant-loop-row
invariant-loop-row g l = LoadsFirst g.L.Library.told g.L.Library.faults l.initial.lib l.lib (λ files (row : Ident × Ident × Ident). MappingRead row files) l.rows (drop l.row-index l.rows) l.mappings.items
