use Rattle.std.proofs.Common.{take}
use Rattle.std.specs.List.{All}
use Rattle.sp_definitions.specs.Definitions.{HasRoom}
use Rattle.sp_definitions.proofs.room.have_room.Given as goal

abbrev pub invariant-loop-definition : goal.invariant-loop-definition
invariant-loop-definition l = All HasRoom (take l.definition-index l.names.definitions)
