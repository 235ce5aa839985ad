use Rattle.std.proofs.Common.{◌≡◌, take, map}
use Rattle.sp_functions.specs.Assertions.{formal_of}
use Rattle.sp_making.proofs.lists.formals.Given as goal

abbrev pub invariant-loop-local : goal.invariant-loop-local
invariant-loop-local l = l.all.items ≡ map formal_of (take l.local-index l.locals)
