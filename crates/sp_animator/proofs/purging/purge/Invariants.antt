use Rattle.std.proofs.Common.{◌≡◌, take}
use Rattle.sp_core.specs.Instances.{filling_of, machine_of}
use Rattle.sp_core.specs.Security as security
use Rattle.sp_animator.proofs.purging.purge.Given as goal

abbrev pub invariant-loop-i : goal.invariant-loop-i
invariant-loop-i l = l.kept.items ≡ security.purge (machine_of l.spec (filling_of l.inst)) l.bound (take l.i-index l.list)
