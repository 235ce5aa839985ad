use Rattle.std.proofs.Common.{◌≡◌, take}
use Rattle.std.specs.List.{flat_map}
use Rattle.sp_text.specs.Violations.{first}
use Rattle.sp_core.specs.declared.function.Param.{Param}
use Rattle.sp_mapping_rules.specs.Types.{missing}
use Rattle.sp_mapping_rows.proofs.parameters.all_missing.Given as goal

abbrev pub invariant-loop-param : goal.invariant-loop-param
invariant-loop-param l = l.found ≡ first (flat_map (λ (q : Param). missing l.place l.names q.name) (take l.param-index l.params))
