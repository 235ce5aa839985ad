use Rattle.std.proofs.Common.{◌≡◌, take}
use Rattle.std.specs.List.{flat_map}
use Rattle.sp_mapping_rules.specs.Functions.{primitive_name}
use Rattle.sp_mapping_rows.proofs.functions.primitives.Given as goal

abbrev pub invariant-loop-f : goal.invariant-loop-f
invariant-loop-f l = l.names.items ≡ flat_map primitive_name (take l.f-index l.functions)
