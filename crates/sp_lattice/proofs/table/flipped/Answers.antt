use Rattle.std.proofs.Common.{◌+◌, ◌*◌, ◌/◌, ◌<◌, ap, ◌∙◌, arith}
use Rattle.std.proofs.lemmas.Nat.{div-mul-add, mod-mul-add}
use Rattle.sp_lattice.specs.Table.{entry}
use Rattle.sp_lattice.proofs.Places.{place_below}
use Rattle.sp_lattice.proofs.table.flipped.Goals as goal

pub returns-clause-entries : goal.returns-clause-entries
returns-clause-entries c = λ a b p q.
    let n = c.args.count in
    let below : a * n + b < c.loop-place.place = omega (arith, place_below n a b p q) in
    c.loop-place.invariant.entries (a * n + b) below
    ∙ ap (λ k. entry n c.args.table.now k ((a * n + b) / n)) (mod-mul-add a n b q)
    ∙ ap (λ k. entry n c.args.table.now b k) (div-mul-add a n b q)
