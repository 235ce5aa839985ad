use Rattle.std.proofs.Common.{take}
use Rattle.std.specs.List.{All}
use Rattle.sp_functions.specs.Equations.{HasRoom}
use Rattle.sp_making.proofs.rooms.have_equation_room.Given as goal

abbrev pub invariant-loop-equation : goal.invariant-loop-equation
invariant-loop-equation l = All HasRoom (take l.equation-index l.equations)
