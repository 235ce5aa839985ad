use Rattle.std.proofs.Common.{◌≡◌, take, length, vec_capacity, vec_len}
use Rattle.sp_core.specs.Instances.{filling_of, machine_of}
use Rattle.sp_core.specs.Machine.{IsState}
use Rattle.sp_core.specs.States.{entry_of}
use Rattle.sp_animator.specs.Runs.{RunsWithin}
use Rattle.sp_animator.proofs.running.animate.Given as goal

-- the run so far, with room for the rest
abbrev pub invariant-loop-at : goal.invariant-loop-at
invariant-loop-at l = record {
  run : RunsWithin (machine_of l.spec (filling_of l.inst)) (entry_of l.initial.state.entries) (take l.at l.list) l.answers.items (entry_of l.state.entries);
  state : IsState (machine_of l.spec (filling_of l.inst)) (entry_of l.state.entries);
  answers : vec_len l.answers ≡ l.at;
  room : vec_capacity l.answers ≡ length l.list;
}
