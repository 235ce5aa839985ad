use Rattle.std.proofs.Common.{◌≡◌, take}
use Rattle.std.specs.List.{flat_map}
use Rattle.sp_text.specs.Violations.{first}
use Rattle.sp_instance.specs.Tables.{missing}
use Rattle.sp_instance.proofs.tables.all_missing.Given as goal

abbrev pub invariant-loop-param : goal.invariant-loop-param
invariant-loop-param l = l.found ≡ first (flat_map (missing l.span l.names) (take l.param-index l.params))
