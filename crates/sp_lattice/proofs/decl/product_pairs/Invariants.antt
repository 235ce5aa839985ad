use Rattle.std.proofs.Common.{ℕ, ◌/◌, ◌%◌, ◌<◌}
use Rattle.std.specs.List.{Contains}
use Rattle.sp_lattice.specs.Closure.{AreLevels}
use Rattle.sp_lattice.specs.Product.{IsProductBelow}
use Rattle.sp_lattice.proofs.decl.product_pairs.Given as goal

abbrev pub invariant-loop-place : goal.invariant-loop-place
invariant-loop-place l = record {
  levels : AreLevels l.count l.pairs.items;
  sound : (x y : ℕ) → Contains l.pairs.items (x, y) → IsProductBelow l.categories x y;
  whole : (k : ℕ) → k < l.place → IsProductBelow l.categories (k / l.count) (k % l.count) → Contains l.pairs.items (k / l.count, k % l.count);
}
