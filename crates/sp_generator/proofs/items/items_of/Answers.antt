use Rattle.std.proofs.Common.{[], ◌++◌, ◌∙◌, map}
use Rattle.sp_core.specs.Effects.{effect_trees}
use Rattle.sp_formulas.specs.Items.{items_in}
use Rattle.sp_generator.specs.Collected.{item_as}
use Rattle.sp_generator.proofs.Insides.{inside_none, insides}
use Rattle.sp_generator.proofs.items.items_of.Goals as goal

pub returns : goal.returns
returns c = c.in_ok-collect_all.ensures ∙ (λ i. map item_as (c.new-all.ensures.items i) ++ insides [] [] (c.effects_of.ensures i)) ∙ inside_none (items_in (effect_trees c.args.kind.now))
