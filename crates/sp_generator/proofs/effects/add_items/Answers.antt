use Rattle.std.proofs.lemmas.Result.{err_from_is_err_and}
use Rattle.sp_formulas.proofs.WayLemmas.{way_refused, way_step, way_typed}
use Rattle.sp_generator.proofs.ListingLemmas.{items_next}
use Rattle.sp_generator.proofs.effects.add_items.Goals as goal

pub add_item-requires-clause-typed : goal.add_item-requires-clause-typed
add_item-requires-clause-typed c =
    way_typed c.args.spec.now c.args.out.now.items _ c.loop-item.out.items _ _ _ c.loop-item.invariant.way
    (items_next c.args.spec.now c.args.fun c.args.function.now c.args.items.now c.loop-item.item-index c.item-item.result c.loop-item-test.true c.item-item.is)
    c.requires.typed

pub returns-in_err-add_item-clause-refused : goal.returns-in_err-add_item-clause-refused
returns-in_err-add_item-clause-refused c =
    let p = err_from_is_err_and c.from_residual.result c.from_residual.ensures.1 in
    rw (p.1, p.2) (way_refused c.args.spec.now c.args.out.now.items _ c.loop-item.out.items _ _ _ _ c.loop-item.invariant.way
    (items_next c.args.spec.now c.args.fun c.args.function.now c.args.items.now c.loop-item.item-index c.item-item.result c.loop-item-test.true c.item-item.is)
    c.in_err-add_item.ensures.refused)

pub loop-item-preserved : goal.loop-item-preserved
loop-item-preserved c = record {
  way = way_step c.args.spec.now c.args.out.now.items _ c.loop-item.out.items c.add_item.new.out.items _ _ _ c.loop-item.invariant.way
      (items_next c.args.spec.now c.args.fun c.args.function.now c.args.items.now c.loop-item.item-index c.item-item.result c.loop-item-test.true c.item-item.is)
      c.in_ok-add_item.ensures.ok;
  two = c.in_ok-add_item.ensures.two;
}
