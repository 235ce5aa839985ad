use Rattle.std.proofs.Common.{◌≡◌, drop}
use Rattle.sp_naming.specs.Visibility.{file_from}
use Rattle.sp_naming.proofs.visibility.file_of.Given as goal

abbrev pub invariant-loop-m : goal.invariant-loop-m
invariant-loop-m l = file_from l.file (drop l.m-index l.modules) l.name ≡ file_from 1 l.modules l.name
