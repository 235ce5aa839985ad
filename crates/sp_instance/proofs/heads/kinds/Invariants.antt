use Rattle.std.proofs.Common.{◌≡◌, take}
use Rattle.sp_text.specs.Violations.{first}
use Rattle.sp_instance.specs.Heads.{kinds_broken}
use Rattle.sp_instance.proofs.heads.kinds.Given as goal

abbrev pub invariant-loop-x : goal.invariant-loop-x
invariant-loop-x l = l.found ≡ first (kinds_broken l.asked l.all (take l.x-index l.xs))
