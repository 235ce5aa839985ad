use Rattle.sp_core.specs.Instances.{filling_of, machine_of}
use Rattle.sp_animator.proofs.CompareLemmas.{AreSameBefore}
use Rattle.sp_animator.proofs.comparing.first_difference.Given as goal

abbrev pub invariant-loop-at : goal.invariant-loop-at
invariant-loop-at l = AreSameBefore (machine_of l.spec (filling_of l.inst)) l.bound l.list l.whole l.purged l.at l.kept
