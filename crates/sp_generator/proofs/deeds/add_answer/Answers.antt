use Rattle.std.proofs.lemmas.Result.{err_from_is_err_and}
use Rattle.sp_core.specs.Tree.{tree}
use Rattle.sp_sequent.specs.declared.formula.FormulaKind.TheVariants as is
use Rattle.sp_formulas.specs.Generated.{level_tree}
use Rattle.sp_formulas.specs.Items.{Answer}
use Rattle.sp_generator.specs.Sites.{formulas_at, guards_at, value_at}
use Rattle.sp_generator.proofs.Chains.{first_refused, first_typed, last_added, last_refused, last_typed, second_way}
use Rattle.sp_generator.proofs.SiteLemmas.{answer_is}
use Rattle.sp_generator.proofs.deeds.add_answer.Goals as goal

pub add_its_guards-requires-clause-typed : goal.add_its_guards-requires-clause-typed
add_its_guards-requires-clause-typed c =
    let u = level_tree c.own_level-level.result in
    first_typed c.args.spec.now c.args.out.now.items (formulas_at c.args.spec.now c.args.site.now (Answer (tree c.args.value.now)))
    (guards_at c.args.spec.now c.args.site.now is.ResultGuardReference u) (value_at c.args.spec.now c.args.site.now is.ResultReference u (tree c.args.value.now))
    (answer_is c.args.spec.now c.args.site.now (tree c.args.value.now) u c.own_level-level.ensures) c.requires.typed

pub returns-in_err-add_its_guards-clause-refused : goal.returns-in_err-add_its_guards-clause-refused
returns-in_err-add_its_guards-clause-refused c =
    let p = err_from_is_err_and c.from_residual-in_err-add_its_guards.result c.from_residual-in_err-add_its_guards.ensures.1 in
    let u = level_tree c.own_level-level.result in
    rw (p.1, p.2) (first_refused c.args.spec.now c.args.out.now.items (formulas_at c.args.spec.now c.args.site.now (Answer (tree c.args.value.now)))
    (guards_at c.args.spec.now c.args.site.now is.ResultGuardReference u) (value_at c.args.spec.now c.args.site.now is.ResultReference u (tree c.args.value.now))
    (answer_is c.args.spec.now c.args.site.now (tree c.args.value.now) u c.own_level-level.ensures) _ c.in_err-add_its_guards.ensures.refused)

pub add_its_value-requires-clause-typed : goal.add_its_value-requires-clause-typed
add_its_value-requires-clause-typed c =
    let u = level_tree c.own_level-level.result in
    let all = formulas_at c.args.spec.now c.args.site.now (Answer (tree c.args.value.now)) in
    let value = value_at c.args.spec.now c.args.site.now is.ResultReference u (tree c.args.value.now) in
    last_typed c.args.spec.now c.args.out.now.items all c.add_its_guards.new.out.items value
    (second_way c.args.spec.now c.args.out.now.items all (guards_at c.args.spec.now c.args.site.now is.ResultGuardReference u) value
    (answer_is c.args.spec.now c.args.site.now (tree c.args.value.now) u c.own_level-level.ensures) c.add_its_guards.new.out.items c.in_ok-add_its_guards.ensures.ok)
    c.requires.typed

pub returns-clause-ok : goal.returns-clause-ok
returns-clause-ok c =
    let u = level_tree c.own_level-level.result in
    let all = formulas_at c.args.spec.now c.args.site.now (Answer (tree c.args.value.now)) in
    let value = value_at c.args.spec.now c.args.site.now is.ResultReference u (tree c.args.value.now) in
    last_added c.args.spec.now c.args.out.now.items all c.add_its_guards.new.out.items value
    (second_way c.args.spec.now c.args.out.now.items all (guards_at c.args.spec.now c.args.site.now is.ResultGuardReference u) value
    (answer_is c.args.spec.now c.args.site.now (tree c.args.value.now) u c.own_level-level.ensures) c.add_its_guards.new.out.items c.in_ok-add_its_guards.ensures.ok)
    c.add_its_value.new.out.items c.add_its_value.result c.add_its_value.ensures.ok

pub returns-clause-refused : goal.returns-clause-refused
returns-clause-refused c =
    let u = level_tree c.own_level-level.result in
    let all = formulas_at c.args.spec.now c.args.site.now (Answer (tree c.args.value.now)) in
    let value = value_at c.args.spec.now c.args.site.now is.ResultReference u (tree c.args.value.now) in
    last_refused c.args.spec.now c.args.out.now.items all c.add_its_guards.new.out.items value
    (second_way c.args.spec.now c.args.out.now.items all (guards_at c.args.spec.now c.args.site.now is.ResultGuardReference u) value
    (answer_is c.args.spec.now c.args.site.now (tree c.args.value.now) u c.own_level-level.ensures) c.add_its_guards.new.out.items c.in_ok-add_its_guards.ensures.ok)
    c.add_its_value.result c.add_its_value.ensures.refused
