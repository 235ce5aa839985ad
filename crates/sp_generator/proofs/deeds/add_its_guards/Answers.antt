use Rattle.std.proofs.Common.{length, subst, sym}
use Rattle.std.specs.Prelude.{OnOk, IfErr}
use Rattle.sp_formulas.specs.Generated.{IsAdded, IsRefused, level_tree}
use Rattle.sp_formulas.specs.Typed.{AreTypedFormulas}
use Rattle.sp_generator.proofs.SiteLemmas.{guards_are}
use Rattle.sp_generator.proofs.deeds.add_its_guards.Goals as goal

pub add_guards-requires-clause-typed : goal.add_guards-requires-clause-typed
add_guards-requires-clause-typed c =
    subst (AreTypedFormulas c.args.spec.now) (sym (guards_are c.args.spec.now c.args.site.now c.args.kind c.place-place.result (level_tree c.args.upper.now) c.place-place.ensures c.args.denied.now c.in_ok-before.before.items c.requires.denied c.in_ok-before.ensures.ok))
    c.requires.typed

pub returns-clause-ok : goal.returns-clause-ok
returns-clause-ok c =
    subst (λ fs. OnOk c.add_guards.result (IsAdded c.args.spec.now c.args.out.now.items c.add_guards.new.out.items fs))
    (guards_are c.args.spec.now c.args.site.now c.args.kind c.place-place.result (level_tree c.args.upper.now) c.place-place.ensures c.args.denied.now c.in_ok-before.before.items c.requires.denied c.in_ok-before.ensures.ok)
    c.add_guards.ensures.ok

pub returns-clause-refused : goal.returns-clause-refused
returns-clause-refused c =
    subst (λ fs. IfErr c.add_guards.result (λ e. IsRefused c.args.spec.now (length c.args.out.now.items) fs e))
    (guards_are c.args.spec.now c.args.site.now c.args.kind c.place-place.result (level_tree c.args.upper.now) c.place-place.ensures c.args.denied.now c.in_ok-before.before.items c.requires.denied c.in_ok-before.ensures.ok)
    c.add_guards.ensures.refused
