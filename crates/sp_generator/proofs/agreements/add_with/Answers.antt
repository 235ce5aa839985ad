use Rattle.std.proofs.lemmas.Result.{err_from_is_err_and}
use Rattle.sp_formulas.proofs.WayLemmas.{way_refused, way_step, way_typed}
use Rattle.sp_generator.specs.Collected.{item_as}
use Rattle.sp_generator.proofs.ListingLemmas.{later_next}
use Rattle.sp_generator.proofs.agreements.add_with.Goals as goal

pub add_pair-requires-clause-typed : goal.add_pair-requires-clause-typed
add_pair-requires-clause-typed c =
    way_typed c.args.spec.now c.args.out.now.items _ c.loop-second.out.items _ _ _ c.loop-second.invariant.way
    (later_next c.args.spec.now c.args.fun c.args.function.now (item_as c.args.first.now) c.args.later.now c.loop-second.second-index c.second-item.result c.loop-second-test.true c.second-item.is)
    c.requires.typed

pub returns-in_err-add_pair-clause-refused : goal.returns-in_err-add_pair-clause-refused
returns-in_err-add_pair-clause-refused c =
    let p = err_from_is_err_and c.from_residual.result c.from_residual.ensures.1 in
    rw (p.1, p.2) (way_refused c.args.spec.now c.args.out.now.items _ c.loop-second.out.items _ _ _ _ c.loop-second.invariant.way
    (later_next c.args.spec.now c.args.fun c.args.function.now (item_as c.args.first.now) c.args.later.now c.loop-second.second-index c.second-item.result c.loop-second-test.true c.second-item.is)
    c.in_err-add_pair.ensures.refused)

pub loop-second-preserved : goal.loop-second-preserved
loop-second-preserved c = record {
  way = way_step c.args.spec.now c.args.out.now.items _ c.loop-second.out.items c.add_pair.new.out.items _ _ _ c.loop-second.invariant.way
      (later_next c.args.spec.now c.args.fun c.args.function.now (item_as c.args.first.now) c.args.later.now c.loop-second.second-index c.second-item.result c.loop-second-test.true c.second-item.is)
      c.in_ok-add_pair.ensures.ok;
  two = c.in_ok-add_pair.ensures.two;
}
