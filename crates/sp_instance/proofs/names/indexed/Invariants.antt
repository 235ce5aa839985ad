use Rattle.std.proofs.Common.{take}
use Rattle.sp_naming.specs.Names.{at_name, IsIndex}
use Rattle.sp_instance.proofs.names.indexed.Given as goal

abbrev pub invariant-loop-place : goal.invariant-loop-place
invariant-loop-place l = IsIndex (take l.place l.all) (at_name l.index)
