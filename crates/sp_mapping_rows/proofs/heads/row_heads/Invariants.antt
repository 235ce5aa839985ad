use Rattle.std.proofs.Common.{◌≡◌, map, take}
use Rattle.sp_functions.specs.Equations.{equation_name}
use Rattle.sp_mapping_rows.proofs.heads.row_heads.Given as goal

abbrev pub invariant-loop-row : goal.invariant-loop-row
invariant-loop-row l = l.heads.items ≡ map equation_name (take l.row-index l.rows)
