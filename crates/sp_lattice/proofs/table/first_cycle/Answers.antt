use Rattle.std.proofs.Common.{◌≡◌, ◌*◌, ◌/◌, ◌%◌, ◌<◌, true, false, get_or, ap, ◌∙◌, arith}
use Rattle.std.proofs.lemmas.Nat.{div-add-mod'}
use Rattle.sp_lattice.specs.Refusal.{IsCycle}
use Rattle.sp_lattice.specs.Table.{entry, IsRelated}
use Rattle.sp_lattice.proofs.Places.{first_at_place, none_at_places, row_below, column_below, some_column}
use Rattle.sp_lattice.proofs.table.first_cycle.Goals as goal

pub returns-then-table-y-clause-some : goal.returns-then-table-y-clause-some
returns-then-table-y-clause-some c =
    let n = c.args.count in
    let k = c.loop-place.place in
    let within : k < n * n = omega arith in
    let some = some_column n k within in
    let low = row_below n k some within in
    let high = column_below n k some in
    let there : entry n c.args.table.now (k / n) (k % n) ≡ true = ap (λ m. get_or c.args.table.now m false) (div-add-mod' k n) ∙ c.if-table-place.true in
    first_at_place n k within (IsCycle (IsRelated n c.args.table.now)) (λ j below less both. c.loop-place.invariant j below less both) c.if-x-y.true
    (record { low = low; high = high; there = there }, record { low = high; high = low; there = c.if-table-y.true })

pub returns-clause-none : goal.returns-clause-none
returns-clause-none c = λ _ x y less both.
    let n = c.args.count in
    none_at_places n (IsCycle (IsRelated n c.args.table.now)) (λ j below. c.loop-place.invariant j (omega arith)) x y less both.0.high both
