use Rattle.std.proofs.Common.{◌≡◌, ◌++◌, drop}
use Rattle.sp_run_command.specs.Printed.{answer_lines}
use Rattle.sp_run_command.proofs.printed.push_lines.Given as goal

-- the lines so far stand before those that are left
abbrev pub invariant-loop-number : goal.invariant-loop-number
invariant-loop-number l =
    l.out.items ++ answer_lines l.spec l.instance l.number (drop l.number l.script) (drop l.number l.answers)
    ≡ l.initial.out.items ++ answer_lines l.spec l.instance 0 l.script l.answers
