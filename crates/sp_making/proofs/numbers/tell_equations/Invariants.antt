use Rattle.std.proofs.Common.{take}
use Rattle.std.specs.List.{All}
use Rattle.sp_specification.specs.Numbers.{IsEquationNumbered}
use Rattle.sp_making.proofs.numbers.tell_equations.Given as goal

abbrev pub invariant-loop-equation : goal.invariant-loop-equation
invariant-loop-equation l = All IsEquationNumbered (take l.equation-index l.equations)
