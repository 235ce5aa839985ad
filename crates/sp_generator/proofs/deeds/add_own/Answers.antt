use Rattle.std.proofs.Common.{[], ◌∷◌, length, subst, sym}
use Rattle.std.specs.Prelude.{OnOk, IfErr}
use Rattle.sp_formulas.specs.Generated.{IsAdded, IsRefused}
use Rattle.sp_formulas.specs.Typed.{IsTypedFormula}
use Rattle.sp_generator.proofs.SiteLemmas.{own_is}
use Rattle.sp_generator.proofs.deeds.add_own.Goals as goal

pub add-requires-clause-typed : goal.add-requires-clause-typed
add-requires-clause-typed c =
    subst (IsTypedFormula c.args.spec.now) (sym (own_is c.args.spec.now c.args.site.now c.args.assumed.now c.requires.assumed c.subject-subject.result c.own_level.result c.args.level.now c.subject-subject.ensures.about c.subject-subject.ensures.known c.own_level.ensures))
    c.requires.typed

pub returns-clause-ok : goal.returns-clause-ok
returns-clause-ok c =
    subst (λ f. OnOk c.add.result (IsAdded c.args.spec.now c.args.out.now.items c.add.new.out.items (f ∷ []))) (own_is c.args.spec.now c.args.site.now c.args.assumed.now c.requires.assumed c.subject-subject.result c.own_level.result c.args.level.now c.subject-subject.ensures.about c.subject-subject.ensures.known c.own_level.ensures)
    c.add.ensures.ok

pub returns-clause-refused : goal.returns-clause-refused
returns-clause-refused c =
    subst (λ f. IfErr c.add.result (λ e. IsRefused c.args.spec.now (length c.args.out.now.items) (f ∷ []) e)) (own_is c.args.spec.now c.args.site.now c.args.assumed.now c.requires.assumed c.subject-subject.result c.own_level.result c.args.level.now c.subject-subject.ensures.about c.subject-subject.ensures.known c.own_level.ensures)
    c.add.ensures.refused
