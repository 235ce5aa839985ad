use Rattle.std.proofs.Common.{◌≡◌, map, take}
use Rattle.sp_mapping_rules.specs.Types.{type_number}
use Rattle.sp_mapping_rows.proofs.types.type_numbers.Given as goal

abbrev pub invariant-loop-info : goal.invariant-loop-info
invariant-loop-info l = l.all.items ≡ map (type_number l.scope l.rows) (take l.info-index l.types)
