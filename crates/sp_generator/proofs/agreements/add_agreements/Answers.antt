use Rattle.std.proofs.lemmas.Result.{err_from_is_err_and}
use Rattle.sp_formulas.proofs.WayLemmas.{way_refused, way_step, way_typed}
use Rattle.sp_generator.proofs.ListingLemmas.{agreements_next}
use Rattle.sp_generator.proofs.agreements.add_agreements.Goals as goal

pub add_with-requires-clause-typed : goal.add_with-requires-clause-typed
add_with-requires-clause-typed c =
    way_typed c.args.spec.now c.args.out.now.items _ c.loop-k.out.items _ _ _ c.loop-k.invariant.way
    (agreements_next c.args.spec.now c.args.fun c.args.function.now c.args.items.now c.loop-k.k c.index-items-k.result c.loop-k-test.true c.index-items-k.is)
    c.requires.typed

pub returns-in_err-add_with-clause-refused : goal.returns-in_err-add_with-clause-refused
returns-in_err-add_with-clause-refused c =
    let q = err_from_is_err_and c.from_residual.result c.from_residual.ensures.1 in
    rw (q.1, q.2) (way_refused c.args.spec.now c.args.out.now.items _ c.loop-k.out.items _ _ _ _ c.loop-k.invariant.way
    (agreements_next c.args.spec.now c.args.fun c.args.function.now c.args.items.now c.loop-k.k c.index-items-k.result c.loop-k-test.true c.index-items-k.is)
    c.in_err-add_with.ensures.refused)

pub loop-k-preserved : goal.loop-k-preserved
loop-k-preserved c = record {
  way = way_step c.args.spec.now c.args.out.now.items _ c.loop-k.out.items c.add_with.new.out.items _ _ _ c.loop-k.invariant.way
      (agreements_next c.args.spec.now c.args.fun c.args.function.now c.args.items.now c.loop-k.k c.index-items-k.result c.loop-k-test.true c.index-items-k.is)
      c.in_ok-add_with.ensures.ok;
  two = c.in_ok-add_with.ensures.two;
}
