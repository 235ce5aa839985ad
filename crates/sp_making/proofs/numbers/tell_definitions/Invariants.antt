use Rattle.std.proofs.Common.{take}
use Rattle.std.specs.List.{All}
use Rattle.sp_specification.specs.Numbers.{IsDefinitionNumbered}
use Rattle.sp_making.proofs.numbers.tell_definitions.Given as goal

abbrev pub invariant-loop-definition : goal.invariant-loop-definition
invariant-loop-definition l = All IsDefinitionNumbered (take l.definition-index l.definitions)
