use Rattle.std.proofs.Common.{◌≡◌, take}
use Rattle.std.specs.List.{flat_map}
use Rattle.sp_text.specs.Violations.{first}
use Rattle.sp_core.specs.declared.function.TypeInfo.{TypeInfo}
use Rattle.sp_mapping_rules.specs.Types.{missing}
use Rattle.sp_mapping_rows.proofs.types.all_missing.Given as goal

abbrev pub invariant-loop-info : goal.invariant-loop-info
invariant-loop-info l = l.found ≡ first (flat_map (λ (i : TypeInfo). missing l.place l.names i.name) (take l.info-index l.types))
