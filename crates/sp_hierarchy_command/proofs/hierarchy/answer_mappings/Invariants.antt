use Rattle.std.proofs.Common.{drop}
use Rattle.sp_frame.specs.Endings.{Printing}
use Rattle.sp_frame.specs.Uncertified.{spells}
use Rattle.sp_frame.proofs.Lists.{First}
use Rattle.sp_hierarchy_command.specs.Hierarchy.{MappedAnswered}
use Rattle.sp_hierarchy_command.proofs.hierarchy.answer_mappings.Given as goal

-- the mappings so far are answered
abbrev pub invariant-loop-mapped : goal.invariant-loop-mapped
invariant-loop-mapped l = First (λ k. Printing spells (MappedAnswered l.members k)) l.mappings (drop l.mapped-index l.mappings) l.reports.items
