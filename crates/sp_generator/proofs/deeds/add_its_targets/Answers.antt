use Rattle.std.proofs.Common.{◌≡◌, ◌∙◌, ap, length, map, subst, sym}
use Rattle.std.specs.Prelude.{OnOk, IfErr}
use Rattle.sp_core.specs.Tree.{tree, trees_of}
use Rattle.sp_formulas.specs.Generated.{IsAdded, IsRefused}
use Rattle.sp_formulas.specs.Typed.{AreTypedFormulas}
use Rattle.sp_generator.proofs.SiteLemmas.{targets_are, upper_is}
use Rattle.sp_generator.proofs.deeds.add_its_targets.Goals as goal

pub walk_each-requires-clause-typed : goal.walk_each-requires-clause-typed
walk_each-requires-clause-typed c =
    subst (AreTypedFormulas c.args.spec.now) (sym (targets_are c.args.spec.now c.args.site.now c.place-place.result (upper_is c.args.site.now c.place-place.result c.own_level-upper.result c.place-place.ensures c.own_level-upper.ensures) c.args.denied.now c.requires.denied (trees_of (map tree c.args.args.now))))
    c.requires.typed

pub returns-clause-ok : goal.returns-clause-ok
returns-clause-ok c =
    subst (λ fs. OnOk c.walk_each.result (IsAdded c.args.spec.now c.args.out.now.items c.walk_each.new.out.items fs))
    (targets_are c.args.spec.now c.args.site.now c.place-place.result (upper_is c.args.site.now c.place-place.result c.own_level-upper.result c.place-place.ensures c.own_level-upper.ensures) c.args.denied.now c.requires.denied (trees_of (map tree c.args.args.now)))
    c.walk_each.ensures.ok

pub returns-clause-refused : goal.returns-clause-refused
returns-clause-refused c =
    subst (λ fs. IfErr c.walk_each.result (λ e. IsRefused c.args.spec.now (length c.args.out.now.items) fs e))
    (targets_are c.args.spec.now c.args.site.now c.place-place.result (upper_is c.args.site.now c.place-place.result c.own_level-upper.result c.place-place.ensures c.own_level-upper.ensures) c.args.denied.now c.requires.denied (trees_of (map tree c.args.args.now)))
    c.walk_each.ensures.refused
