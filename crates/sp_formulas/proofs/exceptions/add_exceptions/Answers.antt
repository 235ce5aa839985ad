use Rattle.std.proofs.Common.{[], length, map, refl, subst, sym}
use Rattle.sp_formulas.specs.Typed.{AreTypedFormulas}
use Rattle.std.proofs.lemmas.Result.{err_from_is_err_and}
use Rattle.sp_core.specs.Tree.{tree}
use Rattle.sp_formulas.specs.Formulas.{reference_formulas}
use Rattle.sp_formulas.specs.Generated.{IsAdded, IsRefused, hypothesis_tree, spot_of}
use Rattle.sp_formulas.specs.References.{references}
use Rattle.sp_core.specs.Tree.{Not}
use Rattle.std.proofs.Common.{◌++◌, ◌∷◌}
use Rattle.sp_formulas.proofs.WayLemmas.{exceptions_next, way_refused, way_step, way_typed}
use Rattle.sp_formulas.proofs.exceptions.add_exceptions.Goals as goal

pub returns-in_err-walk-clause-refused : goal.returns-in_err-walk-clause-refused
returns-in_err-walk-clause-refused c =
    let p = err_from_is_err_and c.from_residual.result c.from_residual.ensures.1 in
    let o = spot_of c.args.place.now [] in
    let hs = map hypothesis_tree c.loop-exception.before.items in
    rw (p.1, p.2) (way_refused c.args.spec.now c.args.out.now.items _ c.loop-exception.out.items _ _ _ _ c.loop-exception.invariant.way
    (exceptions_next c.args.spec.now o hs (hs ++ Not (tree c.exception-item.result.1) ∷ []) (λ e. tree e.1) c.args.exceptions.now c.args.exceptions.now c.loop-exception.exception-index c.exception-item.result refl c.loop-exception-test.true c.exception-item.is refl)
    (subst (λ before. IsRefused c.args.spec.now (length c.loop-exception.out.items) (reference_formulas c.args.spec.now o (map hypothesis_tree before) (references (tree c.exception-item.result.1))) c.in_err-walk.field-0.0) c.deref.ensures.value c.in_err-walk.ensures.refused))

pub loop-exception-preserved : goal.loop-exception-preserved
loop-exception-preserved c =
    let o = spot_of c.args.place.now [] in
    let hs = map hypothesis_tree c.loop-exception.before.items in
    record {
      way = way_step c.args.spec.now c.args.out.now.items _ c.loop-exception.out.items c.walk.new.out.items _ _ _ c.loop-exception.invariant.way
          (exceptions_next c.args.spec.now o hs (map hypothesis_tree c.deny.new.before.items) (λ e. tree e.1) c.args.exceptions.now c.args.exceptions.now c.loop-exception.exception-index c.exception-item.result refl c.loop-exception-test.true c.exception-item.is c.in_ok-deny.ensures.ok)
          (subst (λ before. IsAdded c.args.spec.now c.loop-exception.out.items c.walk.new.out.items (reference_formulas c.args.spec.now o (map hypothesis_tree before) (references (tree c.exception-item.result.1)))) c.deref.ensures.value c.in_ok-walk.ensures.ok);
      two = c.in_ok-walk.ensures.two;
    }

pub walk-requires-clause-typed : goal.walk-requires-clause-typed
walk-requires-clause-typed c =
    let o = spot_of c.args.place.now [] in
    let hs = map hypothesis_tree c.loop-exception.before.items in
    subst (λ before. AreTypedFormulas c.args.spec.now (reference_formulas c.args.spec.now o (map hypothesis_tree before) (references (tree c.exception-item.result.1)))) (sym c.deref.ensures.value)
    (way_typed c.args.spec.now c.args.out.now.items _ c.loop-exception.out.items _ _ _ c.loop-exception.invariant.way
    (exceptions_next c.args.spec.now o hs (hs ++ Not (tree c.exception-item.result.1) ∷ []) (λ e. tree e.1) c.args.exceptions.now c.args.exceptions.now c.loop-exception.exception-index c.exception-item.result refl c.loop-exception-test.true c.exception-item.is refl)
    c.requires.typed)
