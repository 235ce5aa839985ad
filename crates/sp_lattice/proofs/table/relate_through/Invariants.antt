use Rattle.std.proofs.Common.{◌≡◌, ℕ, ◌<◌, ◌&&◌, ◌||◌, nat_lt}
use Rattle.sp_lattice.specs.Table.{entry}
use Rattle.sp_lattice.proofs.table.relate_through.Given as goal

abbrev pub invariant-loop-x : goal.invariant-loop-x
invariant-loop-x l =
    (a b : ℕ) → a < l.count → b < l.count
    → entry l.count l.table a b
    ≡ (entry l.count l.initial.table a b || (nat_lt a l.x && (entry l.count l.initial.table a l.middle && entry l.count l.initial.table l.middle b)))
