use Rattle.std.proofs.Common.{◌++◌, ◌∷◌, [], ◌∙◌, ap, append_assoc, length, map, refl, subst, sym, take}
use Rattle.std.proofs.lemmas.Result.{err_from_is_err_and}
use Rattle.sp_core.specs.Tree.{tree}
use Rattle.sp_sequent.proofs.Inserting.{take_trees}
use Rattle.sp_formulas.specs.Formulas.{reference_formulas}
use Rattle.sp_formulas.specs.Generated.{IsAdded, IsRefused, hypothesis_tree, spot_of}
use Rattle.sp_formulas.specs.References.{references}
use Rattle.sp_formulas.specs.Typed.{AreTypedFormulas}
use Rattle.sp_formulas.proofs.WayLemmas.{guards_next, way_refused, way_step, way_typed}
use Rattle.sp_formulas.proofs.guards.add_guards.Goals as goal

pub walk-requires-clause-typed : goal.walk-requires-clause-typed
walk-requires-clause-typed c =
    let o = spot_of c.args.place.now c.args.bound.now in
    let hs = map hypothesis_tree c.loop-guard.before.items in
    subst (λ before. AreTypedFormulas c.args.spec.now (reference_formulas c.args.spec.now o (map hypothesis_tree before) (references (tree c.guard-item.result)))) (sym c.deref.ensures.value)
    (way_typed c.args.spec.now c.args.out.now.items _ c.loop-guard.out.items _ _ _ c.loop-guard.invariant.way
    (guards_next c.args.spec.now o hs (hs ++ tree c.guard-item.result ∷ []) tree c.args.guards.now c.loop-guard.guard-index c.guard-item.result c.loop-guard-test.true c.guard-item.is refl)
    c.requires.typed)

pub returns-in_err-walk-clause-refused : goal.returns-in_err-walk-clause-refused
returns-in_err-walk-clause-refused c =
    let p = err_from_is_err_and c.from_residual.result c.from_residual.ensures.1 in
    let o = spot_of c.args.place.now c.args.bound.now in
    let hs = map hypothesis_tree c.loop-guard.before.items in
    rw (p.1, p.2) (way_refused c.args.spec.now c.args.out.now.items _ c.loop-guard.out.items _ _ _ _ c.loop-guard.invariant.way
    (guards_next c.args.spec.now o hs (hs ++ tree c.guard-item.result ∷ []) tree c.args.guards.now c.loop-guard.guard-index c.guard-item.result c.loop-guard-test.true c.guard-item.is refl)
    (subst (λ before. IsRefused c.args.spec.now (length c.loop-guard.out.items) (reference_formulas c.args.spec.now o (map hypothesis_tree before) (references (tree c.guard-item.result))) c.in_err-walk.field-0.0) c.deref.ensures.value c.in_err-walk.ensures.refused))

pub loop-guard-preserved : goal.loop-guard-preserved
loop-guard-preserved c =
    let o = spot_of c.args.place.now c.args.bound.now in
    let hs = map hypothesis_tree c.loop-guard.before.items in
    record {
      way = way_step c.args.spec.now c.args.out.now.items _ c.loop-guard.out.items c.walk.new.out.items _ _ _ c.loop-guard.invariant.way
          (guards_next c.args.spec.now o hs (map hypothesis_tree c.assume.new.before.items) tree c.args.guards.now c.loop-guard.guard-index c.guard-item.result c.loop-guard-test.true c.guard-item.is c.in_ok-assume.ensures.ok)
          (subst (λ before. IsAdded c.args.spec.now c.loop-guard.out.items c.walk.new.out.items (reference_formulas c.args.spec.now o (map hypothesis_tree before) (references (tree c.guard-item.result)))) c.deref.ensures.value c.in_ok-walk.ensures.ok);
      assumed =
          c.in_ok-assume.ensures.ok ∙ ap (λ x. x ++ tree c.guard-item.result ∷ []) c.loop-guard.invariant.assumed
          ∙ append_assoc (map hypothesis_tree c.args.before.now.items) (map tree (take c.loop-guard.guard-index c.args.guards.now)) (tree c.guard-item.result ∷ [])
          ∙ ap (λ x. map hypothesis_tree c.args.before.now.items ++ x) (sym (take_trees c.args.guards.now c.loop-guard.guard-index c.guard-item.result c.loop-guard-test.true c.guard-item.is));
      two = c.in_ok-walk.ensures.two;
    }
