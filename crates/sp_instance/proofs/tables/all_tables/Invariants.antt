use Rattle.std.proofs.Common.{◌≡◌, None, take}
use Rattle.std.specs.Prelude.{map}
use Rattle.std.specs.List.{flat_map}
use Rattle.sp_text.specs.Violations.{first}
use Rattle.sp_instance.specs.Tables.{param_broken, param_table}
use Rattle.sp_instance.proofs.tables.all_tables.Given as goal

abbrev pub invariant-loop-param : goal.invariant-loop-param
invariant-loop-param l = record {
  made : l.found ≡ None → l.all.items ≡ map (param_table l.words l.texts) (take l.param-index l.params);
  found : l.found ≡ first (flat_map (param_broken l.words l.texts) (take l.param-index l.params));
}
