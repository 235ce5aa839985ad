use Rattle.std.proofs.Common.{ℕ, ◌<◌}
use Rattle.sp_lattice.specs.Table.{IsRelated}
use Rattle.sp_lattice.proofs.table.is_below_uppers.Given as goal

abbrev pub invariant-loop-w : goal.invariant-loop-w
invariant-loop-w l =
    (w : ℕ) → w < l.w → IsRelated l.count l.table l.x w → IsRelated l.count l.table l.y w → IsRelated l.count l.table l.z w
