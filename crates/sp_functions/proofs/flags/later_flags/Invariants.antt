use Rattle.std.proofs.Common.{◌≡◌, take}
use Rattle.sp_functions.specs.Judged as spec
use Rattle.sp_functions.proofs.flags.later_flags.Given as goal

abbrev pub invariant-loop-head : goal.invariant-loop-head
invariant-loop-head l = (l.k ≡ l.head-index) × (l.all.items ≡ spec.later_flags l.g 0 (take l.head-index l.heads))
