use Rattle.std.proofs.Common.{ℕ, ◌/◌, ◌%◌, ◌<◌}
use Rattle.sp_lattice.specs.Refusal.{IsCycle}
use Rattle.sp_lattice.specs.Table.{IsRelated}
use Rattle.sp_lattice.proofs.table.first_cycle.Given as goal

abbrev pub invariant-loop-place : goal.invariant-loop-place
invariant-loop-place l =
    (k : ℕ) → k < l.place → k / l.count < k % l.count → ¬ IsCycle (IsRelated l.count l.table) (k / l.count) (k % l.count)
