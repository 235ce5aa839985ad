use Rattle.std.proofs.Common.{◌≡◌, ℕ, ◌/◌, ◌%◌, ◌<◌, vec_len, slice_index}
use Rattle.sp_lattice.specs.Bounds.{IsLeastUpper}
use Rattle.sp_lattice.specs.Table.{IsRelated}
use Rattle.sp_lattice.proofs.table.least_uppers.Given as goal

abbrev pub invariant-loop-place : goal.invariant-loop-place
invariant-loop-place l = record {
  filled : vec_len l.bounds ≡ l.place;
  each : (k : ℕ) → k < l.place → IsLeastUpper l.count (IsRelated l.count l.table) (k / l.count) (k % l.count) (slice_index l.bounds.items k);
}
