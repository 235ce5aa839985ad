use Rattle.std.proofs.Common.{◌≡◌, take}
use Rattle.std.specs.List.{flat_map}
use Rattle.sp_text.specs.Violations.{first}
use Rattle.sp_core.specs.declared.function.Function.{Function}
use Rattle.sp_core.specs.Typing.{primitive_type}
use Rattle.sp_mapping_rules.specs.Functions.{primitive_missing}
use Rattle.sp_mapping_rows.proofs.functions.all_missing.Given as goal

abbrev pub invariant-loop-f : goal.invariant-loop-f
invariant-loop-f l = l.found ≡ first (flat_map (λ (f : Function). primitive_missing l.place l.names f.name (primitive_type f.kind)) (take l.f-index l.functions))
