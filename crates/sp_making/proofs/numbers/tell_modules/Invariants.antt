use Rattle.std.proofs.Common.{take}
use Rattle.std.specs.List.{All}
use Rattle.sp_specification.specs.Numbers.{IsModuleNumbered}
use Rattle.sp_making.proofs.numbers.tell_modules.Given as goal

abbrev pub invariant-loop-m : goal.invariant-loop-m
invariant-loop-m l = All IsModuleNumbered (take l.m-index l.modules)
