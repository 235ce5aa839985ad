use Rattle.std.proofs.Common.{take}
use Rattle.sp_functions.specs.Exceptions.{AreExceptionsOf}
use Rattle.sp_functions.proofs.exceptions.make_exceptions.Given as goal

abbrev pub invariant-loop-exception : goal.invariant-loop-exception
invariant-loop-exception l = AreExceptionsOf l.scope l.formals (take l.exception-index l.exceptions) l.all.items
