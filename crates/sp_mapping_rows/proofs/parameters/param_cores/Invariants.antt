use Rattle.std.proofs.Common.{◌≡◌, map, take}
use Rattle.sp_mapping_rules.specs.Parameters.{param_core}
use Rattle.sp_mapping_rows.proofs.parameters.param_cores.Given as goal

abbrev pub invariant-loop-param : goal.invariant-loop-param
invariant-loop-param l = l.all.items ≡ map (param_core l.scope l.types l.rows) (take l.param-index l.params)
