use Rattle.std.proofs.Common.{take}
use Rattle.std.specs.List.{All}
use Rattle.sp_specification.specs.Numbers.{IsNumbered}
use Rattle.sp_making.proofs.numbers.tell_assertions.Given as goal

abbrev pub invariant-loop-e : goal.invariant-loop-e
invariant-loop-e l = All IsNumbered (take l.e-index l.es)
