use Rattle.std.proofs.Common.{◌≡◌, ◌++◌, take}
use Rattle.sp_instance.proofs.spec_names.push_levels.Given as goal

abbrev pub invariant-loop-level : goal.invariant-loop-level
invariant-loop-level l = l.names.items ≡ l.initial.names.items ++ take l.level l.spec.level_names
