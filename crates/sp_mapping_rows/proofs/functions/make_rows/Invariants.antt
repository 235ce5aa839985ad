use Rattle.std.proofs.Common.{◌≡◌, map, take}
use Rattle.sp_mapping_rules.specs.Functions.{row_of}
use Rattle.sp_mapping_rows.proofs.functions.make_rows.Given as goal

abbrev pub invariant-loop-row : goal.invariant-loop-row
invariant-loop-row l = l.all.items ≡ map (row_of l.upper l.scope l.types l.cores) (take l.row-index l.rows)
