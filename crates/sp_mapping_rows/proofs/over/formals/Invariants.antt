use Rattle.std.proofs.Common.{◌≡◌, map, take}
use Rattle.sp_functions.specs.Assertions.{formal_of}
use Rattle.sp_mapping_rows.proofs.over.formals.Given as goal

abbrev pub invariant-loop-local : goal.invariant-loop-local
invariant-loop-local l = l.all.items ≡ map formal_of (take l.local-index l.locals)
