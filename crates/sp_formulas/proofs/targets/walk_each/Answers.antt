use Rattle.std.proofs.Common.{map}
use Rattle.std.proofs.lemmas.Result.{err_from_is_err_and}
use Rattle.sp_core.specs.Tree.{tree}
use Rattle.sp_formulas.specs.Generated.{hypothesis_tree, spot_of}
use Rattle.sp_formulas.proofs.WayLemmas.{targets_next, way_refused, way_step, way_typed}
use Rattle.sp_formulas.proofs.targets.walk_each.Goals as goal

pub walk-requires-clause-typed : goal.walk-requires-clause-typed
walk-requires-clause-typed c =
    way_typed c.args.spec.now c.args.out.now.items _ c.loop-e.out.items _ _ _ c.loop-e.invariant.way
    (targets_next c.args.spec.now (spot_of c.args.place.now c.args.bound.now) (map hypothesis_tree c.args.hyps.now) tree c.args.exprs.now c.loop-e.e-index c.e-item.result c.loop-e-test.true c.e-item.is)
    c.requires.typed

pub returns-in_err-walk-clause-refused : goal.returns-in_err-walk-clause-refused
returns-in_err-walk-clause-refused c =
    let p = err_from_is_err_and c.from_residual.result c.from_residual.ensures.1 in
    rw (p.1, p.2) (way_refused c.args.spec.now c.args.out.now.items _ c.loop-e.out.items _ _ _ _ c.loop-e.invariant.way
    (targets_next c.args.spec.now (spot_of c.args.place.now c.args.bound.now) (map hypothesis_tree c.args.hyps.now) tree c.args.exprs.now c.loop-e.e-index c.e-item.result c.loop-e-test.true c.e-item.is)
    c.in_err-walk.ensures.refused)

pub loop-e-preserved : goal.loop-e-preserved
loop-e-preserved c = record {
  way = way_step c.args.spec.now c.args.out.now.items _ c.loop-e.out.items c.walk.new.out.items _ _ _ c.loop-e.invariant.way
      (targets_next c.args.spec.now (spot_of c.args.place.now c.args.bound.now) (map hypothesis_tree c.args.hyps.now) tree c.args.exprs.now c.loop-e.e-index c.e-item.result c.loop-e-test.true c.e-item.is)
      c.in_ok-walk.ensures.ok;
  two = c.in_ok-walk.ensures.two;
}
