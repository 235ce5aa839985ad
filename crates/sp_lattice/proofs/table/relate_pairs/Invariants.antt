use Rattle.std.proofs.Common.{ℕ, ◌<◌, ◌⊎◌, get_or}
use Rattle.std.specs.List.{Contains}
use Rattle.sp_lattice.specs.Table.{IsRelated}
use Rattle.sp_lattice.proofs.table.relate_pairs.Given as goal

abbrev pub invariant-loop-pair : goal.invariant-loop-pair
invariant-loop-pair l = record {
  kept : (a b : ℕ) → IsRelated l.count l.initial.table a b → IsRelated l.count l.table a b;
  whole : (k : ℕ) (d : ℕ × ℕ) → k < l.pair-index → IsRelated l.count l.table (get_or l.pairs k d).0 (get_or l.pairs k d).1;
  only : (a b : ℕ) → IsRelated l.count l.table a b → IsRelated l.count l.initial.table a b ⊎ Contains l.pairs (a, b);
}
