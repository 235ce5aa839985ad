use Rattle.std.proofs.Common.{◌∙◌, ap, length, map, subst, sym}
use Rattle.std.specs.Prelude.{OnOk, IfErr}
use Rattle.sp_core.specs.Tree.{tree, trees_of}
use Rattle.sp_formulas.specs.Generated.{IsAdded, IsRefused}
use Rattle.sp_formulas.specs.Items.{Answer, Change}
use Rattle.sp_formulas.specs.Typed.{AreTypedFormulas}
use Rattle.sp_generator.specs.Collected.{deed_as}
use Rattle.sp_generator.proofs.ListingLemmas.{item_is}
use Rattle.sp_generator.proofs.effects.add_item.Goals as goal

pub add_change-requires-clause-typed : goal.add_change-requires-clause-typed
add_change-requires-clause-typed c =
    subst (AreTypedFormulas c.args.spec.now) (sym (item_is c.args.spec.now c.args.fun c.args.function.now c.args.item.now c.deref-2.result.now c.deref.result.now (Change c.in-Change.g (trees_of (map tree c.in-Change.args.now)) (tree c.in-Change.value.now))
    c.deref-2.ensures.value (ap (map tree) c.deref.ensures.value ∙ c.in_ok-guards.ensures.ok) (ap deed_as c.in-Change.is)))
    c.requires.typed

pub returns-in-Change-clause-ok : goal.returns-in-Change-clause-ok
returns-in-Change-clause-ok c =
    subst (λ fs. OnOk c.add_change.result (IsAdded c.args.spec.now c.args.out.now.items c.add_change.new.out.items fs))
    (item_is c.args.spec.now c.args.fun c.args.function.now c.args.item.now c.deref-2.result.now c.deref.result.now (Change c.in-Change.g (trees_of (map tree c.in-Change.args.now)) (tree c.in-Change.value.now))
    c.deref-2.ensures.value (ap (map tree) c.deref.ensures.value ∙ c.in_ok-guards.ensures.ok) (ap deed_as c.in-Change.is))
    c.add_change.ensures.ok

pub returns-in-Change-clause-refused : goal.returns-in-Change-clause-refused
returns-in-Change-clause-refused c =
    subst (λ fs. IfErr c.add_change.result (λ e. IsRefused c.args.spec.now (length c.args.out.now.items) fs e))
    (item_is c.args.spec.now c.args.fun c.args.function.now c.args.item.now c.deref-2.result.now c.deref.result.now (Change c.in-Change.g (trees_of (map tree c.in-Change.args.now)) (tree c.in-Change.value.now))
    c.deref-2.ensures.value (ap (map tree) c.deref.ensures.value ∙ c.in_ok-guards.ensures.ok) (ap deed_as c.in-Change.is))
    c.add_change.ensures.refused

pub add_answer-requires-clause-typed : goal.add_answer-requires-clause-typed
add_answer-requires-clause-typed c =
    subst (AreTypedFormulas c.args.spec.now) (sym (item_is c.args.spec.now c.args.fun c.args.function.now c.args.item.now c.deref-2.result.now c.deref.result.now (Answer (tree c.in-Answer.value.now))
    c.deref-2.ensures.value (ap (map tree) c.deref.ensures.value ∙ c.in_ok-guards.ensures.ok) (ap deed_as c.in-Answer.is)))
    c.requires.typed

pub returns-clause-ok : goal.returns-clause-ok
returns-clause-ok c =
    subst (λ fs. OnOk c.add_answer.result (IsAdded c.args.spec.now c.args.out.now.items c.add_answer.new.out.items fs))
    (item_is c.args.spec.now c.args.fun c.args.function.now c.args.item.now c.deref-2.result.now c.deref.result.now (Answer (tree c.in-Answer.value.now))
    c.deref-2.ensures.value (ap (map tree) c.deref.ensures.value ∙ c.in_ok-guards.ensures.ok) (ap deed_as c.in-Answer.is))
    c.add_answer.ensures.ok

pub returns-clause-refused : goal.returns-clause-refused
returns-clause-refused c =
    subst (λ fs. IfErr c.add_answer.result (λ e. IsRefused c.args.spec.now (length c.args.out.now.items) fs e))
    (item_is c.args.spec.now c.args.fun c.args.function.now c.args.item.now c.deref-2.result.now c.deref.result.now (Answer (tree c.in-Answer.value.now))
    c.deref-2.ensures.value (ap (map tree) c.deref.ensures.value ∙ c.in_ok-guards.ensures.ok) (ap deed_as c.in-Answer.is))
    c.add_answer.ensures.refused
