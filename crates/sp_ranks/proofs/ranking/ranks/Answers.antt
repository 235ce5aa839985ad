use Rattle.std.proofs.Common.{◌∙◌, ap, arith, map}
use Rattle.sp_core.specs.Effects.{changes_in, effect_tree, effect_trees_of}
use Rattle.sp_ranks.specs.Heights.{height_of}
use Rattle.sp_ranks.proofs.Chains.{all_ranks}
use Rattle.sp_ranks.proofs.Forms.{take_past}
use Rattle.sp_ranks.proofs.ranking.ranks.Goals as goal

pub returns : goal.returns
returns c =
    let hs = c.in_ok-heights.heights.items in
    c.loop-number.invariant
    ∙ ap (λ xs. map (λ h. height_of hs h.fun) xs) (take_past hs c.loop-number.number (omega (arith, c.loop-number-test.false, c.loop-number.auto.number-end, c.len-number-end.ensures)))
    ∙ all_ranks (changes_in (effect_trees_of (map effect_tree c.args.effects.now))) hs c.in_ok-heights.ensures
