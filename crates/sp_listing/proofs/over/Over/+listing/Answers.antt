use Rattle.std.proofs.Common.{◌≡◌, refl, ◌++◌, ◌∷◌, [], sym, ◌∙◌, ap, arith, map}
use Rattle.std.specs.Prelude.{slice_get}
use Rattle.sp_core.specs.Effects.{changes_in, effect_tree, effect_trees_of}
use Rattle.sp_core.specs.Tree.{tree}
use Rattle.sp_eval.specs.Settings.{population, sizes}
use Rattle.sp_listing.proofs.Branches.{else_listed, else_skipped, every_listed, listed_next, on_ok, then_listed, then_skipped}
use Rattle.sp_listing.proofs.Typed.{body_at, every_is, if_is}
use Rattle.sp_listing.proofs.over.Over.+listing.Goals as goal

pub list_change-returns-then-not-holds : goal.list_change-returns-then-not-holds
list_change-returns-then-not-holds t c =
    let form = if_is c.args.effect.now c.in-If.condition c.in-If.then c.in-If.otherwise c.as_slice-in-If.result.now c.in-If.otherwise c.in-If.is c.as_slice-in-If.ensures refl in
    then_skipped c.args.self.now c.args.env.now (effect_tree c.args.effect.now) (tree c.in-If.condition) _ _ form c.requires c.holds-holds.result c.holds-holds.ensures
    c.args.number c.count_all-count.result c.count_all-count.ensures c.args.out.now.items c.args.out.now.items c.if-number-count.true c.if-not-holds.true

pub list_change-returns-then-holds : goal.list_change-returns-then-holds
list_change-returns-then-holds t c =
    let form = if_is c.args.effect.now c.in-If.condition c.in-If.then c.in-If.otherwise c.as_slice-in-If.result.now c.in-If.otherwise c.in-If.is c.as_slice-in-If.ensures refl in
    else_skipped c.args.self.now c.args.env.now (effect_tree c.args.effect.now) (tree c.in-If.condition) _ _ form c.requires c.holds-holds.result c.holds-holds.ensures
    c.args.number c.count_all-count.result c.count_all-count.ensures c.args.out.now.items c.args.out.now.items (omega (arith, c.if-number-count.false)) c.if-holds.true

pub list_change-returns-else-not-holds : goal.list_change-returns-else-not-holds
list_change-returns-else-not-holds t c =
    let form = if_is c.args.effect.now c.in-If.condition c.in-If.then c.in-If.otherwise c.as_slice-in-If.result.now c.in-If.otherwise c.in-If.is c.as_slice-in-If.ensures refl in
    let again : c.as_slice-then-number-count.result.now ≡ c.as_slice-in-If.result.now = c.as_slice-then-number-count.ensures ∙ sym c.as_slice-in-If.ensures in
    on_ok _ _ c.list_among.result (λ h.
    then_listed c.args.self.now c.args.env.now (effect_tree c.args.effect.now) (tree c.in-If.condition) _ _ form c.requires c.holds-holds.result c.holds-holds.ensures
    c.args.number c.count_all-count.result c.count_all-count.ensures c.args.out.now.items c.list_among.new.out.items c.if-number-count.true c.if-not-holds.false
    (λ a there. h a (ap (λ es. slice_get (changes_in (effect_trees_of (map effect_tree es))) c.args.number) again ∙ there))) c.list_among.ensures

pub list_change-returns-else-holds : goal.list_change-returns-else-holds
list_change-returns-else-holds t c =
    let form = if_is c.args.effect.now c.in-If.condition c.in-If.then c.in-If.otherwise c.as_slice-in-If.result.now c.as_slice-else-number-count.result.now c.in-If.is c.as_slice-in-If.ensures c.as_slice-else-number-count.ensures in
    on_ok _ _ c.list_among-else-number-count.result (λ h.
    else_listed c.args.self.now c.args.env.now (effect_tree c.args.effect.now) (tree c.in-If.condition) _ _ form c.requires c.holds-holds.result c.holds-holds.ensures
    c.args.number c.count_all-count.result c.count_all-count.ensures c.args.out.now.items c.list_among-else-number-count.new.out.items (omega (arith, c.if-number-count.false)) c.if-holds.false h) c.list_among-else-number-count.ensures

pub list_change-returns-in-Every : goal.list_change-returns-in-Every
list_change-returns-in-Every t c =
    let form = every_is c.args.effect.now c.in-Every.field-0 c.in-Every.ty c.in-Every.body c.as_slice-in-Every.result.now c.in-Every.is c.as_slice-in-Every.ensures in
    on_ok _ _ c.list_for_each.result (λ h.
    every_listed c.args.self.now c.args.env.now (effect_tree c.args.effect.now) c.in-Every.field-0 c.in-Every.ty _ form c.args.number c.args.out.now.items c.list_for_each.new.out.items h) c.list_for_each.ensures

pub list_for_each-list_among-requires : goal.list_for_each-list_among-requires
list_for_each-list_among-requires t c = (
  omega arith,
  body_at c.args.self.now c.args.env.now c.args.ty (effect_trees_of (map effect_tree c.args.body.now)) c.requires c.proper.result c.loop-k.k c.population-k-end.result c.loop-k-test.true
      (c.population-k-end.ensures ∙ ap (λ s. population (sizes s) c.args.ty) c.self.view_is) c.proper.ensures c.with.result c.with.ensures,
)

pub list_for_each-loop-k-preserved : goal.list_for_each-loop-k-preserved
list_for_each-loop-k-preserved t c =
    listed_next c.args.self.now c.args.env.now c.args.ty c.loop-k.k c.args.out.now.items c.loop-k.out.items c.list_among.new.out.items
    (changes_in (effect_trees_of (map effect_tree c.args.body.now))) c.args.number c.loop-k.invariant c.with.result (c.with.ensures ∙ ap (λ v. c.args.env.now ++ v ∷ []) c.proper.ensures) c.in_ok-list_among.ensures
