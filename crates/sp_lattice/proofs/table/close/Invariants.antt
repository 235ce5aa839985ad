use Rattle.std.proofs.Common.{ℕ}
use Rattle.sp_lattice.specs.Closure.{Path}
use Rattle.sp_lattice.specs.Table.{IsRelated}
use Rattle.sp_lattice.proofs.Closing.{IsThrough}
use Rattle.sp_lattice.proofs.table.close.Given as goal

abbrev pub invariant-loop-middle : goal.invariant-loop-middle
invariant-loop-middle l = record {
  kept : (a b : ℕ) → IsRelated l.count l.initial.table a b → IsRelated l.count l.table a b;
  only : (a b : ℕ) → IsRelated l.count l.table a b → Path (IsRelated l.count l.initial.table) a b;
  through : IsThrough l.count l.table l.middle;
}
