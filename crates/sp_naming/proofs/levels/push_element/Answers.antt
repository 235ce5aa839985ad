use Rattle.std.proofs.Common.{◌∙◌, ◌+◌, refl}
use Rattle.sp_naming.proofs.Products.{element_pushed}
use Rattle.sp_naming.proofs.levels.push_element.Goals as goal

pub loop-set-preserved : goal.loop-set-preserved
loop-set-preserved c =
    element_pushed c.args.categories.now c.args.element.now c.args.first c.loop-set.set c.deref.result.now c.args.all.now.items c.loop-set.all.items c.push_level.new.all.items (c.args.first + c.loop-set.set)
    c.loop-set.invariant (c.deref.ensures.value ∙ c.in_ok-name.ensures) refl c.in_ok-push_level.ensures
