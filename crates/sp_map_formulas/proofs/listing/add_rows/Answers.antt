use Rattle.std.proofs.lemmas.Result.{err_from_is_err_and}
use Rattle.sp_formulas.proofs.WayLemmas.{way_refused, way_step, way_typed}
use Rattle.sp_map_formulas.proofs.Nexts.{rows_next}
use Rattle.sp_map_formulas.proofs.listing.add_rows.Goals as goal

pub add_row-requires-clause-typed : goal.add_row-requires-clause-typed
add_row-requires-clause-typed c =
    way_typed c.args.lower.now c.args.out.now.items _ c.loop-row.out.items _ _ _ c.loop-row.invariant.way
    (rows_next c.args.lower.now c.items-row-items.result.now c.args.m.now.functions c.loop-row.row-index c.row-item.result c.items-row-items.ensures c.loop-row-test.true c.row-item.is)
    c.requires.typed

pub returns-in_err-add_row-clause-refused : goal.returns-in_err-add_row-clause-refused
returns-in_err-add_row-clause-refused c =
    let q = err_from_is_err_and c.from_residual.result c.from_residual.ensures.1 in
    rw (q.1, q.2) (way_refused c.args.lower.now c.args.out.now.items _ c.loop-row.out.items _ _ _ _ c.loop-row.invariant.way
    (rows_next c.args.lower.now c.items-row-items.result.now c.args.m.now.functions c.loop-row.row-index c.row-item.result c.items-row-items.ensures c.loop-row-test.true c.row-item.is)
    c.in_err-add_row.ensures.refused)

pub loop-row-preserved : goal.loop-row-preserved
loop-row-preserved c = record {
  way = way_step c.args.lower.now c.args.out.now.items _ c.loop-row.out.items c.add_row.new.out.items _ _ _ c.loop-row.invariant.way
      (rows_next c.args.lower.now c.items-row-items.result.now c.args.m.now.functions c.loop-row.row-index c.row-item.result c.items-row-items.ensures c.loop-row-test.true c.row-item.is)
      c.in_ok-add_row.ensures.ok;
  two = c.in_ok-add_row.ensures.two;
}
