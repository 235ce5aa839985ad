use Rattle.std.proofs.Common.{take}
use Rattle.std.specs.List.{All}
use Rattle.sp_specification.specs.Numbers.{IsFunctionNumbered}
use Rattle.sp_making.proofs.numbers.tell_functions.Given as goal

abbrev pub invariant-loop-x : goal.invariant-loop-x
invariant-loop-x l = All IsFunctionNumbered (take l.x-index l.xs)
