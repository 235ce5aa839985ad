use Rattle.std.proofs.Common.{drop}
use Rattle.std.specs.List.{All}
use Rattle.sp_frame.proofs.Lists.{First}
use Rattle.sp_hierarchy.specs.Judged.{IsMappedTo, MappingJudged}
use Rattle.sp_hierarchy.proofs.mappings.judge_mappings.Given as goal

-- the mappings so far are judged, and each is one to an interface of these
abbrev pub invariant-loop-row : goal.invariant-loop-row
invariant-loop-row l = First (MappingJudged l.members) l.rows (drop l.row-index l.rows) l.mappings.items × All (IsMappedTo l.members) l.mappings.items
