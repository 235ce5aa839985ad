use Rattle.std.proofs.Common.{◌≡◌, take}
use Rattle.sp_functions.proofs.assertions.copies.Given as goal

abbrev pub invariant-loop-local : goal.invariant-loop-local
invariant-loop-local l = l.all.items ≡ take l.local-index l.locals
