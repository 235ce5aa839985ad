use Rattle.std.proofs.lemmas.Result.{err_from_is_err_and}
use Rattle.sp_formulas.proofs.WayLemmas.{way_refused, way_step, way_typed}
use Rattle.sp_generator.proofs.ListingLemmas.{functions_next}
use Rattle.sp_generator.proofs.listing.add_all.Goals as goal

pub add_function-requires-clause-typed : goal.add_function-requires-clause-typed
add_function-requires-clause-typed c =
    way_typed c.args.spec.now c.args.out.now.items _ c.loop-g.out.items _ _ _ c.loop-g.invariant.way
    (functions_next c.args.spec.now c.functions-functions.result.now c.loop-g.g c.index-functions-g.result c.loop-g-test.true c.index-functions-g.is)
    c.requires.typed

pub returns-in_err-add_function-clause-refused : goal.returns-in_err-add_function-clause-refused
returns-in_err-add_function-clause-refused c =
    let q = err_from_is_err_and c.from_residual.result c.from_residual.ensures.1 in
    rw (q.1, q.2) (way_refused c.args.spec.now c.args.out.now.items _ c.loop-g.out.items _ _ _ _ c.loop-g.invariant.way
    (functions_next c.args.spec.now c.functions-functions.result.now c.loop-g.g c.index-functions-g.result c.loop-g-test.true c.index-functions-g.is)
    c.in_err-add_function.ensures.refused)

pub loop-g-preserved : goal.loop-g-preserved
loop-g-preserved c = record {
  way = way_step c.args.spec.now c.args.out.now.items _ c.loop-g.out.items c.add_function.new.out.items _ _ _ c.loop-g.invariant.way
      (functions_next c.args.spec.now c.functions-functions.result.now c.loop-g.g c.index-functions-g.result c.loop-g-test.true c.index-functions-g.is)
      c.in_ok-add_function.ensures.ok;
  two = c.in_ok-add_function.ensures.two;
}
