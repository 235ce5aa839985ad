use Rattle.std.proofs.Common.{◌≡◌, length}
use Rattle.sp_making.proofs.rooms.variables.Given as goal

abbrev pub invariant-loop-name : goal.invariant-loop-name
invariant-loop-name l = length l.all.items ≡ l.name-index
