use Rattle.std.proofs.Common.{◌≡◌, [], ◌++◌, ◌∙◌, ap, arith, length, map}
use Rattle.sp_core.specs.Effects.{changes_in, effect_tree, effect_trees_of}
use Rattle.sp_ranks.specs.Heights.{raised}
use Rattle.sp_ranks.proofs.Chains.{length_raised}
use Rattle.sp_ranks.proofs.ranking.count_changes.Goals as goal

pub returns : goal.returns
returns c =
    let as' = changes_in (effect_trees_of (map effect_tree c.args.effects.now)) in
    let e : length c.raise_all.new.out.items ≡ length as' = ap length (c.in_ok-raise_all.ensures ∙ ap (λ xs. xs ++ raised [] as') c.new-first.ensures.items) ∙ length_raised [] as' in
    omega (arith, c.len.ensures, e)
