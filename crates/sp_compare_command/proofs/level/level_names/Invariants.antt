use Rattle.std.proofs.Common.{◌≡◌, take}
use Rattle.sp_compare_command.proofs.level.level_names.Given as goal

-- the names so far are those of the first levels
abbrev pub invariant-loop-level : goal.invariant-loop-level
invariant-loop-level l = l.names.items ≡ take l.level l.spec.level_names
