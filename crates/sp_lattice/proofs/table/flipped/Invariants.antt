use Rattle.std.proofs.Common.{◌≡◌, ℕ, ◌/◌, ◌%◌, ◌<◌, vec_len, false, get_or}
use Rattle.sp_lattice.specs.Table.{entry}
use Rattle.sp_lattice.proofs.table.flipped.Given as goal

abbrev pub invariant-loop-place : goal.invariant-loop-place
invariant-loop-place l = record {
  filled : vec_len l.other ≡ l.place;
  entries : (k : ℕ) → k < l.place → get_or l.other.items k false ≡ entry l.count l.table (k % l.count) (k / l.count);
}
