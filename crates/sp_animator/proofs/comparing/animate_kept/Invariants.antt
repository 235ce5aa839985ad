use Rattle.std.proofs.Common.{take}
use Rattle.sp_core.specs.Instances.{filling_of, machine_of}
use Rattle.sp_core.specs.Machine.{IsState}
use Rattle.sp_core.specs.Security as security
use Rattle.sp_core.specs.States.{entry_of}
use Rattle.sp_animator.specs.Runs.{RunsWithin}
use Rattle.sp_animator.proofs.comparing.animate_kept.Given as goal

abbrev pub invariant-loop-at : goal.invariant-loop-at
invariant-loop-at l = record {
  run : RunsWithin (machine_of l.spec (filling_of l.inst)) (entry_of l.initial.state.entries) (security.purge (machine_of l.spec (filling_of l.inst)) l.bound (take l.at l.list)) l.answers.items (entry_of l.state.entries);
  state : IsState (machine_of l.spec (filling_of l.inst)) (entry_of l.state.entries);
}
