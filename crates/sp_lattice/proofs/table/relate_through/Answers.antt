use Rattle.std.proofs.Common.{◌≡◌, true, false}
use Rattle.sp_lattice.specs.Table.{entry}
use Rattle.sp_lattice.proofs.Closing.{row_more, row_same}
use Rattle.sp_lattice.proofs.table.relate_through.Goals as goal
use Rattle.sp_lattice.proofs.table.relate_through.Goals.{then-table-place, else-table-place}

pub loop-x-preserved : goal.loop-x-preserved
loop-x-preserved c = λ a b p q.
    let n = c.args.count in
    let m = c.args.middle in
    let x = c.loop-x.x in
    let h = c.loop-x.invariant in
    elim c.if-table-place.branch [
      | then-table-place w ↦
          let there : entry n c.loop-x.table x m ≡ true = rw c.place.ensures.place at w.if-table-place.true in
          rw w.table-is (row_more (entry n c.args.table.now) (entry n c.loop-x.table) (entry n w.add_row.new.table) x m a b (h a b p q) (h m b c.requires.middle q) (h x m c.loop-x-test.true c.requires.middle) there (w.add_row.ensures a b p q))
      | else-table-place w ↦
          let absent : entry n c.loop-x.table x m ≡ false = rw c.place.ensures.place at w.if-table-place.false in
          rw w.table-is (row_same (entry n c.args.table.now) (entry n c.loop-x.table) x m a b (h a b p q) (h x m c.loop-x-test.true c.requires.middle) absent)
    ]
