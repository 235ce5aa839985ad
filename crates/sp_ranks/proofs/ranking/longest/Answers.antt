use Rattle.std.proofs.Common.{◌≡◌, ◌+◌, ◌++◌, ◌∙◌, ap, arith, map, suc}
use Rattle.sp_core.specs.Effects.{changes_in, effect_tree, effect_trees_of}
use Rattle.sp_ranks.specs.Heights.{heights_within, raised}
use Rattle.sp_ranks.proofs.Chains.{low_heights}
use Rattle.sp_ranks.proofs.ranking.longest.Goals as goal

pub raise_all-requires : goal.raise_all-requires
raise_all-requires c =
    low_heights (changes_in (effect_trees_of (map effect_tree c.args.effects.now))) c.loop-steps.steps (omega (arith, c.requires, c.loop-steps-test.true, c.in_ok-count.ensures)) c.deref.result.now (c.deref.ensures.value ∙ c.loop-steps.invariant)

pub loop-steps-preserved : goal.loop-steps-preserved
loop-steps-preserved c =
    let as' = changes_in (effect_trees_of (map effect_tree c.args.effects.now)) in
    let more : suc c.loop-steps.steps ≡ c.loop-steps.steps + 1 = omega arith in
    c.in_ok-raise_all.ensures ∙ (λ i. c.new-next.ensures.items i ++ raised ((c.deref.ensures.value ∙ c.loop-steps.invariant) i) as') ∙ ap (λ n. heights_within as' n) more
