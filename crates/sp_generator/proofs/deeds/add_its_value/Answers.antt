use Rattle.std.proofs.Common.{length, subst, sym}
use Rattle.std.specs.Prelude.{OnOk, IfErr}
use Rattle.sp_core.specs.Tree.{tree}
use Rattle.sp_formulas.specs.Generated.{IsAdded, IsRefused, level_tree}
use Rattle.sp_formulas.specs.Typed.{AreTypedFormulas}
use Rattle.sp_generator.proofs.SiteLemmas.{value_is}
use Rattle.sp_generator.proofs.deeds.add_its_value.Goals as goal

pub walk-requires-clause-typed : goal.walk-requires-clause-typed
walk-requires-clause-typed c =
    subst (AreTypedFormulas c.args.spec.now) (sym (value_is c.args.spec.now c.args.site.now c.args.kind c.place-place.result (level_tree c.args.upper.now) c.place-place.ensures c.args.assumed.now c.requires.assumed (tree c.args.value.now))) c.requires.typed

pub returns-clause-ok : goal.returns-clause-ok
returns-clause-ok c =
    subst (λ fs. OnOk c.walk.result (IsAdded c.args.spec.now c.args.out.now.items c.walk.new.out.items fs)) (value_is c.args.spec.now c.args.site.now c.args.kind c.place-place.result (level_tree c.args.upper.now) c.place-place.ensures c.args.assumed.now c.requires.assumed (tree c.args.value.now))
    c.walk.ensures.ok

pub returns-clause-refused : goal.returns-clause-refused
returns-clause-refused c =
    subst (λ fs. IfErr c.walk.result (λ e. IsRefused c.args.spec.now (length c.args.out.now.items) fs e)) (value_is c.args.spec.now c.args.site.now c.args.kind c.place-place.result (level_tree c.args.upper.now) c.place-place.ensures c.args.assumed.now c.requires.assumed (tree c.args.value.now))
    c.walk.ensures.refused
