use Rattle.std.proofs.Common.{◌∙◌, ap, map}
use Rattle.std.proofs.lemmas.Result.{on_ok_weaker}
use Rattle.sp_formulas.specs.Generated.{hypothesis_tree}
use Rattle.sp_generator.specs.Collected.{item_as}
use Rattle.sp_generator.proofs.Insides.{collected_Every, collected_If}
use Rattle.sp_generator.proofs.items.+collecting.Goals as goal

pub collect_one-returns-in_ok-left-in-If : goal.collect_one-returns-in_ok-left-in-If
collect_one-returns-in_ok-left-in-If t c =
    on_ok_weaker c.collect_all-in-If.result
    (collected_If (map item_as c.args.out.now.items) (map item_as c.collect_all.new.out.items) (map item_as c.collect_all-in-If.new.out.items) c.args.vars.now (map hypothesis_tree c.args.guards.now)
    c.args.effect.now c.in-If.e c.in-If.then c.in-If.otherwise c.as_slice-in-If.result.now c.as_slice-in-If-2.result.now c.in-If.is c.as_slice-in-If.ensures c.as_slice-in-If-2.ensures
    (map hypothesis_tree c.deref.result.now) (map hypothesis_tree c.deref-in-If.result.now)
    (ap (map hypothesis_tree) c.deref.ensures.value ∙ c.in_ok-taken-in-If.ensures) (ap (map hypothesis_tree) c.deref-in-If.ensures.value ∙ c.in_ok-left-in-If.ensures) c.in_ok-collect_all-in-If.ensures)
    c.collect_all-in-If.ensures

pub collect_one-returns-in_ok-more-in-Every : goal.collect_one-returns-in_ok-more-in-Every
collect_one-returns-in_ok-more-in-Every t c =
    on_ok_weaker c.collect_all-in-Every.result
    (collected_Every (map item_as c.args.out.now.items) (map item_as c.collect_all-in-Every.new.out.items) c.args.vars.now (map hypothesis_tree c.args.guards.now)
    c.args.effect.now c.in-Every.field-0 c.in-Every.ty c.in-Every.body c.as_slice-in-Every.result.now c.in-Every.is c.as_slice-in-Every.ensures
    c.deref-in-Every.result.now (c.deref-in-Every.ensures.value ∙ c.in_ok-more-in-Every.ensures))
    c.collect_all-in-Every.ensures
