use Rattle.sp_pool.proofs.Indexes.{AreSeen}
use Rattle.sp_pool.proofs.index.look_up.Given as goal

abbrev pub invariant-loop-step : goal.invariant-loop-step
invariant-loop-step l = AreSeen l.region.records l.slots l.words l.step
