use Rattle.std.proofs.Common.{◌≡◌, ◌==◌, ℕ, ◌<◌, ◌&&◌, ◌||◌, nat_lt}
use Rattle.sp_lattice.specs.Table.{entry}
use Rattle.sp_lattice.proofs.table.add_row.Given as goal

abbrev pub invariant-loop-y : goal.invariant-loop-y
invariant-loop-y l =
    (a b : ℕ) → a < l.count → b < l.count
    → entry l.count l.table a b ≡ (entry l.count l.initial.table a b || ((a == l.x) && (nat_lt b l.y && entry l.count l.initial.table l.other b)))
