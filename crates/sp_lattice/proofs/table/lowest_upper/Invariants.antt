use Rattle.std.proofs.Common.{◌≡◌, ℕ, ◌<◌, Some, IfSome}
use Rattle.sp_lattice.specs.Bounds.{IsLeastUpper}
use Rattle.sp_lattice.specs.Table.{IsRelated}
use Rattle.sp_lattice.proofs.table.lowest_upper.Given as goal

abbrev pub invariant-loop-z : goal.invariant-loop-z
invariant-loop-z l = record {
  upper : IfSome l.lowest (λ z. IsRelated l.count l.table l.x z × IsRelated l.count l.table l.y z);
  only : (z : ℕ) → z < l.z → IsLeastUpper l.count (IsRelated l.count l.table) l.x l.y z → l.lowest ≡ Some z;
}
