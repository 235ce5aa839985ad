use Rattle.std.proofs.Common.{◌≡◌, ◌++◌, drop}
use Rattle.sp_run_command.specs.Printed.{more_text}
use Rattle.sp_run_command.proofs.values.push_more.Given as goal

-- the values so far stand before those that are left
abbrev pub invariant-loop-value : goal.invariant-loop-value
invariant-loop-value l = l.out.items ++ more_text l.spec l.instance (drop l.value-index l.values) ≡ l.initial.out.items ++ more_text l.spec l.instance l.values
