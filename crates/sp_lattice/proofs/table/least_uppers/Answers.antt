use Rattle.std.proofs.Common.{◌≡◌, ℕ, ◌+◌, ◌*◌, ◌/◌, ◌%◌, ◌<◌, vec_len, slice_index, below_more, arith, rules}
use Rattle.std.proofs.lemmas.Nat.{div-add-mod', div-mul-add, mod-mul-add}
use Rattle.sp_lattice.specs.Bounds.{IsLeastUpper}
use Rattle.sp_lattice.specs.Refusal.{HasNoLub}
use Rattle.sp_lattice.specs.Table.{IsRelated}
use Rattle.sp_lattice.proofs.Places.{first_at_place, at_place, earlier_place, place_below, row_below, column_below, some_column}
use Rattle.sp_lattice.proofs.Uppers.{missing_ordered}
use Rattle.sp_lattice.proofs.table.least_uppers.Goals as goal

pub returns-in_default-clause-missing : goal.returns-in_default-clause-missing
returns-in_default-clause-missing c =
    let n = c.args.count in
    let R = IsRelated n c.args.table.now in
    let k = c.loop-place.place in
    let within : k < n * n = omega arith in
    let some = some_column n k within in
    let each = c.loop-place.invariant.each in
    let before = λ (j : ℕ) (below : j < k). let found : (z : ℕ) × IsLeastUpper n R (j / n) (j % n) z = (slice_index c.loop-place.bounds.items j, each j below) in found in
    let ordered = missing_ordered n R c.requires.partial (k / n) (k % n) (row_below n k some within) (column_below n k some)
    (λ a b level earlier. at_place (λ x y. (z : ℕ) × IsLeastUpper n R x y z) n k before a b level (omega (arith, earlier_place n a b (k / n) (k % n) level earlier, div-add-mod' k n)))
    c.in_default.ensures in
    first_at_place n k within (HasNoLub n R) (λ j below less none. none (slice_index c.loop-place.bounds.items j) (each j below)) ordered c.in_default.ensures

pub loop-place-preserved : goal.loop-place-preserved
loop-place-preserved c = record {
  filled = search rules;
  each = below_more _ c.loop-place.place
      (λ k below.
      let kept : slice_index c.push.new.self.items k ≡ slice_index c.loop-place.bounds.items k = c.push.ensures.by_index.0 k 0 (omega arith) in
      rw kept (c.loop-place.invariant.each k below))
      (let last : slice_index c.push.new.self.items (vec_len c.loop-place.bounds) ≡ c.in-Some.bound = c.push.ensures.by_index.1 0 (search rules) in
      rw (← c.loop-place.invariant.filled, last, c.loop-place.invariant.filled) c.in-Some.ensures);
}

pub returns-clause-ok : goal.returns-clause-ok
returns-clause-ok c =
    let n = c.args.count in
    let k : c.loop-place.place ≡ n * n = omega arith in
    record {
      whole = omega arith;
      each = λ x y p q.
          let below : x * n + y < c.loop-place.place = omega (arith, place_below n x y p q) in
          rw (div-mul-add x n y q, mod-mul-add x n y q) at (c.loop-place.invariant.each (x * n + y) below);
    }
