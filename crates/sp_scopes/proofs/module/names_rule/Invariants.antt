use Rattle.std.proofs.Common.{◌≡◌, take}
use Rattle.std.specs.List.{flat_map}
use Rattle.sp_text.specs.Violations.{first}
use Rattle.sp_scopes.specs.Modules.{name_rule}
use Rattle.sp_scopes.proofs.module.names_rule.Given as goal

abbrev pub invariant-loop-x : goal.invariant-loop-x
invariant-loop-x l = l.found ≡ first (flat_map (name_rule l.declared l.file) (take l.x-index l.names))
