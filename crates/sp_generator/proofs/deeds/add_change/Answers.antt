use Rattle.std.proofs.Common.{map}
use Rattle.std.proofs.lemmas.Result.{err_from_is_err_and}
use Rattle.sp_core.specs.Tree.{tree, trees_of}
use Rattle.sp_formulas.specs.Generated.{level_tree}
use Rattle.sp_formulas.specs.Items.{Change}
use Rattle.sp_generator.specs.Sites.{formulas_at, targets_at}
use Rattle.sp_generator.proofs.ChangeWays.{guards_refused, guards_typed, own_refused, own_typed, targets_way, value_refused, value_typed}
use Rattle.sp_generator.proofs.Chains.{last_added, last_refused, last_typed}
use Rattle.sp_generator.proofs.deeds.add_change.Goals as goal

pub add_own-requires-clause-typed : goal.add_own-requires-clause-typed
add_own-requires-clause-typed c =
    own_typed c.args.spec.now c.args.site.now c.args.g (trees_of (map tree c.args.args.now)) (tree c.args.value.now) (level_tree c.level_at-level.result) c.level_at-level.ensures c.args.out.now.items
    c.requires.typed

pub returns-in_err-add_own-clause-refused : goal.returns-in_err-add_own-clause-refused
returns-in_err-add_own-clause-refused c =
    let p = err_from_is_err_and c.from_residual-in_err-add_own.result c.from_residual-in_err-add_own.ensures.1 in
    rw (p.1, p.2) (own_refused c.args.spec.now c.args.site.now c.args.g (trees_of (map tree c.args.args.now)) (tree c.args.value.now) (level_tree c.level_at-level.result) c.level_at-level.ensures c.args.out.now.items _
    c.in_err-add_own.ensures.refused)

pub add_its_guards-requires-clause-typed : goal.add_its_guards-requires-clause-typed
add_its_guards-requires-clause-typed c =
    guards_typed c.args.spec.now c.args.site.now c.args.g (trees_of (map tree c.args.args.now)) (tree c.args.value.now) (level_tree c.level_at-level.result) c.level_at-level.ensures c.args.out.now.items
    c.add_own.new.out.items c.in_ok-add_own.ensures.ok c.requires.typed

pub returns-in_err-add_its_guards-clause-refused : goal.returns-in_err-add_its_guards-clause-refused
returns-in_err-add_its_guards-clause-refused c =
    let p = err_from_is_err_and c.from_residual-in_err-add_its_guards.result c.from_residual-in_err-add_its_guards.ensures.1 in
    rw (p.1, p.2) (guards_refused c.args.spec.now c.args.site.now c.args.g (trees_of (map tree c.args.args.now)) (tree c.args.value.now) (level_tree c.level_at-level.result) c.level_at-level.ensures c.args.out.now.items
    c.add_own.new.out.items c.in_ok-add_own.ensures.ok _ c.in_err-add_its_guards.ensures.refused)

pub add_its_value-requires-clause-typed : goal.add_its_value-requires-clause-typed
add_its_value-requires-clause-typed c =
    value_typed c.args.spec.now c.args.site.now c.args.g (trees_of (map tree c.args.args.now)) (tree c.args.value.now) (level_tree c.level_at-level.result) c.level_at-level.ensures c.args.out.now.items
    c.add_own.new.out.items c.in_ok-add_own.ensures.ok c.add_its_guards.new.out.items c.in_ok-add_its_guards.ensures.ok c.requires.typed

pub returns-in_err-add_its_value-clause-refused : goal.returns-in_err-add_its_value-clause-refused
returns-in_err-add_its_value-clause-refused c =
    let p = err_from_is_err_and c.from_residual-in_err-add_its_value.result c.from_residual-in_err-add_its_value.ensures.1 in
    rw (p.1, p.2) (value_refused c.args.spec.now c.args.site.now c.args.g (trees_of (map tree c.args.args.now)) (tree c.args.value.now) (level_tree c.level_at-level.result) c.level_at-level.ensures c.args.out.now.items
    c.add_own.new.out.items c.in_ok-add_own.ensures.ok c.add_its_guards.new.out.items c.in_ok-add_its_guards.ensures.ok _ c.in_err-add_its_value.ensures.refused)

pub add_its_targets-requires-clause-typed : goal.add_its_targets-requires-clause-typed
add_its_targets-requires-clause-typed c =
    let ds = trees_of (map tree c.args.args.now) in
    let way = targets_way c.args.spec.now c.args.site.now c.args.g ds (tree c.args.value.now) (level_tree c.level_at-level.result) c.level_at-level.ensures c.args.out.now.items
    c.add_own.new.out.items c.in_ok-add_own.ensures.ok c.add_its_guards.new.out.items c.in_ok-add_its_guards.ensures.ok c.add_its_value.new.out.items c.in_ok-add_its_value.ensures.ok in
    last_typed c.args.spec.now c.args.out.now.items (formulas_at c.args.spec.now c.args.site.now (Change c.args.g ds (tree c.args.value.now))) c.add_its_value.new.out.items (targets_at c.args.spec.now c.args.site.now ds) way
    c.requires.typed

pub returns-clause-ok : goal.returns-clause-ok
returns-clause-ok c =
    let ds = trees_of (map tree c.args.args.now) in
    let way = targets_way c.args.spec.now c.args.site.now c.args.g ds (tree c.args.value.now) (level_tree c.level_at-level.result) c.level_at-level.ensures c.args.out.now.items
    c.add_own.new.out.items c.in_ok-add_own.ensures.ok c.add_its_guards.new.out.items c.in_ok-add_its_guards.ensures.ok c.add_its_value.new.out.items c.in_ok-add_its_value.ensures.ok in
    last_added c.args.spec.now c.args.out.now.items (formulas_at c.args.spec.now c.args.site.now (Change c.args.g ds (tree c.args.value.now))) c.add_its_value.new.out.items (targets_at c.args.spec.now c.args.site.now ds) way
    c.add_its_targets.new.out.items c.add_its_targets.result c.add_its_targets.ensures.ok

pub returns-clause-refused : goal.returns-clause-refused
returns-clause-refused c =
    let ds = trees_of (map tree c.args.args.now) in
    let way = targets_way c.args.spec.now c.args.site.now c.args.g ds (tree c.args.value.now) (level_tree c.level_at-level.result) c.level_at-level.ensures c.args.out.now.items
    c.add_own.new.out.items c.in_ok-add_own.ensures.ok c.add_its_guards.new.out.items c.in_ok-add_its_guards.ensures.ok c.add_its_value.new.out.items c.in_ok-add_its_value.ensures.ok in
    last_refused c.args.spec.now c.args.out.now.items (formulas_at c.args.spec.now c.args.site.now (Change c.args.g ds (tree c.args.value.now))) c.add_its_value.new.out.items (targets_at c.args.spec.now c.args.site.now ds) way
    c.add_its_targets.result c.add_its_targets.ensures.refused
