use Rattle.std.proofs.Common.{◌≡◌, take}
use Rattle.std.specs.List.{flat_map}
use Rattle.sp_text.specs.Violations.{first}
use Rattle.sp_mapping_rules.specs.Parameters.{param_row_broken}
use Rattle.sp_mapping_rows.proofs.parameters.judge_each.Given as goal

abbrev pub invariant-loop-row : goal.invariant-loop-row
invariant-loop-row l = l.found ≡ first (flat_map (param_row_broken l.upper l.scope l.types) (take l.row-index l.rows))
