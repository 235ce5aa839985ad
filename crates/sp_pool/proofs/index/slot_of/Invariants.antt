use Rattle.std.proofs.Common.{◌≡◌, ℕ, ◌<◌, [], Some, get_or}
use Rattle.sp_pool.specs.Index.{number_in, probe}
use Rattle.sp_pool.proofs.index.slot_of.Given as goal

abbrev pub invariant-loop-step : goal.invariant-loop-step
invariant-loop-step l =
    (t : ℕ) → t < l.step → number_in l.slots (probe (get_or l.region.records l.number []) t) ≡ Some l.number → ⊥
