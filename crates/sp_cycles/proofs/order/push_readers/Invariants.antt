use Rattle.std.proofs.Common.{◌≡◌, take}
use Rattle.sp_cycles.specs.Reaches.{with_readers}
use Rattle.sp_cycles.proofs.order.push_readers.Given as goal

abbrev pub invariant-loop-quoted : goal.invariant-loop-quoted
invariant-loop-quoted l = l.all.items ≡ with_readers (take l.quoted-index l.quotes) l.fn.h l.initial.all.items
