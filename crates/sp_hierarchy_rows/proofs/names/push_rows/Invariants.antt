use Rattle.std.proofs.Common.{◌≡◌, drop}
use Rattle.sp_hierarchy_rows.specs.Names.{with_rows}
use Rattle.sp_hierarchy_rows.proofs.names.push_rows.Given as goal

-- with the names of the rows that are left, they are those of all rows
abbrev pub invariant-loop-row : goal.invariant-loop-row
invariant-loop-row l = with_rows l.names.items (drop l.row-index l.rows) ≡ with_rows l.initial.names.items l.rows
