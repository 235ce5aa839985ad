use Rattle.std.proofs.Common.{◌≡◌, map, take}
use Rattle.sp_mapping_rules.specs.Types.{type_head}
use Rattle.sp_mapping_rows.proofs.heads.type_heads.Given as goal

abbrev pub invariant-loop-row : goal.invariant-loop-row
invariant-loop-row l = l.heads.items ≡ map type_head (take l.row-index l.rows)
