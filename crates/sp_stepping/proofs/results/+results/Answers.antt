use Rattle.std.proofs.Common.{refl, sym, ◌∙◌, ap, map, true, false, Option, ◌-◌, length, take, drop}
use Rattle.sp_values.specs.declared.value.Value.{Value}
use Rattle.sp_core.specs.Effects.{EffectTrees, effect_tree, effect_trees_of, results_in}
use Rattle.sp_core.specs.States.{entry_of}
use Rattle.sp_core.specs.Tree.{tree}
use Rattle.sp_eval.specs.Overlays.{upper_or}
use Rattle.sp_listing.specs.Conditions.{machine}
use Rattle.sp_listing.proofs.Typed.{if_is, more_is}
use Rattle.sp_stepping.specs.Moments.{first_result}
use Rattle.sp_stepping.proofs.ResultLemmas.{first_if, first_more}
use Rattle.sp_stepping.proofs.results.+results.Goals as goal

pub first_of-returns-then-holds : goal.first_of-returns-then-holds
first_of-returns-then-holds t c =
    let o = c.args.over.now in
    let form = if_is c.args.effect.now c.in-If.condition c.in-If.then c.in-If.otherwise c.as_slice.result.now c.in-If.otherwise c.in-If.is c.as_slice.ensures refl in
    c.first_among.ensures
    ∙ sym (first_if (machine o) (entry_of o.old) (entry_of o.new) c.args.env.now (effect_tree c.args.effect.now) (tree c.in-If.condition) _ _ form true (sym c.if-holds.true ∙ c.holds.ensures))

pub first_of-returns-else-holds : goal.first_of-returns-else-holds
first_of-returns-else-holds t c =
    let o = c.args.over.now in
    let form = if_is c.args.effect.now c.in-If.condition c.in-If.then c.in-If.otherwise c.in-If.then c.as_slice-else-holds.result.now c.in-If.is refl c.as_slice-else-holds.ensures in
    c.first_among-else-holds.ensures
    ∙ sym (first_if (machine o) (entry_of o.old) (entry_of o.new) c.args.env.now (effect_tree c.args.effect.now) (tree c.in-If.condition) _ _ form false (sym c.if-holds.false ∙ c.holds.ensures))

pub first_among-returns-in-Some : goal.first_among-returns-in-Some
first_among-returns-in-Some t c =
    let o = c.args.over.now in
    let rest : EffectTrees = effect_trees_of (map effect_tree (take (length c.args.effects.now - 1) (drop 1 c.args.effects.now))) in
    let form = more_is c.args.effects.now c.first-item.result c.in-len1-up.len_at_least c.first-item.is in
    sym (first_more (machine o) (entry_of o.old) (entry_of o.new) c.args.env.now _ rest (effect_tree c.first-item.result) form
    ∙ ap (λ (r : Option Value). upper_or r (first_result (machine o) (entry_of o.old) (entry_of o.new) c.args.env.now (results_in rest))) (sym c.first_of.ensures ∙ c.in-Some.is))

pub first_among-returns-in-None : goal.first_among-returns-in-None
first_among-returns-in-None t c =
    let o = c.args.over.now in
    let rest : EffectTrees = effect_trees_of (map effect_tree (take (length c.args.effects.now - 1) (drop 1 c.args.effects.now))) in
    let form = more_is c.args.effects.now c.first-item.result c.in-len1-up.len_at_least c.first-item.is in
    c.first_among.ensures
    ∙ sym (first_more (machine o) (entry_of o.old) (entry_of o.new) c.args.env.now _ rest (effect_tree c.first-item.result) form
    ∙ ap (λ (r : Option Value). upper_or r (first_result (machine o) (entry_of o.old) (entry_of o.new) c.args.env.now (results_in rest))) (sym c.first_of.ensures ∙ c.in-None.is))
