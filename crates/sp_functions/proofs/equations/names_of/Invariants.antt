use Rattle.std.proofs.Common.{◌≡◌, map, take}
use Rattle.sp_functions.specs.Equations.{equation_name}
use Rattle.sp_functions.proofs.equations.names_of.Given as goal

abbrev pub invariant-loop-equation : goal.invariant-loop-equation
invariant-loop-equation l = l.names.items ≡ map equation_name (take l.equation-index l.equations)
