use Rattle.std.proofs.Common.{length, take}
use Rattle.sp_functions.specs.Exceptions.{HaveRoom}
use Rattle.sp_making.proofs.rooms.have_exception_room.Given as goal

abbrev pub invariant-loop-exception : goal.invariant-loop-exception
invariant-loop-exception l = HaveRoom (length l.formals) (take l.exception-index l.exceptions)
