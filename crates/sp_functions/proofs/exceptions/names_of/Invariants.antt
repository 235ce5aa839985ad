use Rattle.std.proofs.Common.{◌≡◌, take}
use Rattle.sp_functions.specs.Exceptions.{exception_names}
use Rattle.sp_functions.proofs.exceptions.names_of.Given as goal

abbrev pub invariant-loop-exception : goal.invariant-loop-exception
invariant-loop-exception l = l.names.items ≡ exception_names (take l.exception-index l.exceptions)
