use Rattle.std.proofs.Common.{take}
use Rattle.sp_naming.specs.Names.{at_name, IsIndex}
use Rattle.sp_naming.proofs.names.indexed_names.Given as goal

abbrev pub invariant-loop-place : goal.invariant-loop-place
invariant-loop-place l = IsIndex (take l.place l.all) (at_name l.index)
