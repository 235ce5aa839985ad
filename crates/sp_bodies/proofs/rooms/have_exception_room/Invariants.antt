use Rattle.std.proofs.Common.{length, take}
use Rattle.std.specs.List.{All}
use Rattle.sp_functions.specs.Exceptions.{HasRoom}
use Rattle.sp_bodies.proofs.rooms.have_exception_room.Given as goal

abbrev pub invariant-loop-exception : goal.invariant-loop-exception
invariant-loop-exception l = All (HasRoom (length l.formals)) (take l.exception-index l.exceptions)
