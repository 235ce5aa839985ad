use Rattle.std.proofs.Common.{◌≡◌, ◌<◌, true, false, subst, sym, arith}
use Rattle.sp_lattice.specs.Table.{entry, IsGreatest}
use Rattle.sp_lattice.proofs.Uppers.{greatest_taken, greatest_left}
use Rattle.sp_lattice.proofs.table.greatest.Goals as goal
use Rattle.sp_lattice.proofs.table.greatest.Goals.{then-table-place, else-table-place}

pub loop-z-preserved : goal.loop-z-preserved
loop-z-preserved c =
    let n = c.args.count in
    let table = c.args.table.now in
    let best = c.loop-z.greatest in
    let z = c.loop-z.z in
    let level : z < n = omega arith in
    let h = c.loop-z.invariant in
    elim c.if-table-place.branch [
      | then-table-place w ↦
          let above : entry n table best z ≡ true = rw c.place.ensures.place at w.if-table-place.true in
          rw w.greatest-is (record { level = level; found = greatest_taken n table c.requires.partial best z h.level level above h.found })
      | else-table-place w ↦
          let apart : entry n table best z ≡ false = rw c.place.ensures.place at w.if-table-place.false in
          rw w.greatest-is (record { level = h.level; found = greatest_left n table c.requires.partial best z h.level level apart h.found })
    ]

pub returns : goal.returns
returns c =
    let top = c.requires.there in
    let below : top.0 < c.loop-z.z = omega (arith, top.1.level) in
    subst (λ z. IsGreatest c.args.count c.args.table.now z) (sym (c.loop-z.invariant.found top.0 below top.1)) top.1
