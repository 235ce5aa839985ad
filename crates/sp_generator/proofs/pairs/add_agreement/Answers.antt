use Rattle.std.proofs.Common.{[], ◌∷◌, ◌∙◌, ap, length, map, subst, sym}
use Rattle.std.specs.Prelude.{OnOk, IfErr}
use Rattle.sp_core.specs.Tree.{tree}
use Rattle.sp_formulas.specs.Generated.{IsAdded, IsRefused}
use Rattle.sp_formulas.specs.Typed.{IsTypedFormula}
use Rattle.sp_generator.proofs.PairLemmas.{agreed_is}
use Rattle.sp_generator.proofs.pairs.add_agreement.Goals as goal

pub add_made-requires-clause-typed : goal.add_made-requires-clause-typed
add_made-requires-clause-typed c =
    subst (IsTypedFormula c.args.spec.now) (sym (agreed_is c.args.spec.now c.args.pair.now c.args.x.now c.args.y.now c.deref-2.result.now c.deref-3.result.now (tree c.in-Ok-raised.other)
    (c.deref-2.ensures.value ∙ c.in_ok-vars.ensures.ok) (ap (map tree) c.deref-3.ensures.value ∙ c.in-Ok.ensures) c.in-Ok-raised.ensures))
    c.requires.typed

pub returns-clause-ok : goal.returns-clause-ok
returns-clause-ok c =
    subst (λ f. OnOk c.add_made.result (IsAdded c.args.spec.now c.args.out.now.items c.add_made.new.out.items (f ∷ [])))
    (agreed_is c.args.spec.now c.args.pair.now c.args.x.now c.args.y.now c.deref-2.result.now c.deref-3.result.now (tree c.in-Ok-raised.other)
    (c.deref-2.ensures.value ∙ c.in_ok-vars.ensures.ok) (ap (map tree) c.deref-3.ensures.value ∙ c.in-Ok.ensures) c.in-Ok-raised.ensures)
    c.add_made.ensures.ok

pub returns-clause-refused : goal.returns-clause-refused
returns-clause-refused c =
    subst (λ f. IfErr c.add_made.result (λ e. IsRefused c.args.spec.now (length c.args.out.now.items) (f ∷ []) e))
    (agreed_is c.args.spec.now c.args.pair.now c.args.x.now c.args.y.now c.deref-2.result.now c.deref-3.result.now (tree c.in-Ok-raised.other)
    (c.deref-2.ensures.value ∙ c.in_ok-vars.ensures.ok) (ap (map tree) c.deref-3.ensures.value ∙ c.in-Ok.ensures) c.in-Ok-raised.ensures)
    c.add_made.ensures.refused
