use Rattle.std.proofs.Common.{take}
use Rattle.sp_functions.specs.Laws.{HaveNumbers}
use Rattle.sp_making.proofs.numbers.tell_exceptions.Given as goal

abbrev pub invariant-loop-exception : goal.invariant-loop-exception
invariant-loop-exception l = HaveNumbers (take l.exception-index l.exceptions)
