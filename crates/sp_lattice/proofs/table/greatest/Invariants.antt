use Rattle.std.proofs.Common.{◌≡◌, ℕ, ◌<◌}
use Rattle.sp_lattice.specs.Table.{IsGreatest}
use Rattle.sp_lattice.proofs.table.greatest.Given as goal

abbrev pub invariant-loop-z : goal.invariant-loop-z
invariant-loop-z l = record {
  level : l.greatest < l.count;
  found : (z : ℕ) → z < l.z → IsGreatest l.count l.table z → l.greatest ≡ z;
}
