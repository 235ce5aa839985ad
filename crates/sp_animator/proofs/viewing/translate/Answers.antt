use Rattle.std.proofs.Common.{◌≡◌, ◌∷◌, ◌++◌, [], sym, ◌∙◌, ap, arith, length, map}
use Rattle.sp_animator.specs.Views as views
use Rattle.sp_animator.proofs.CompareLemmas.{take_all}
use Rattle.sp_animator.proofs.ViewLemmas.{map_few, map_next}
use Rattle.sp_animator.proofs.viewing.translate.Goals as goal

pub push-requires : goal.push-requires
push-requires c =
    let few = map_few (views.translated c.args.types.now) c.values-values.result.now c.loop-index.index in
    let long = ap length c.loop-index.invariant in
    let same = ap length c.values-values.ensures.value in
    omega (arith, few, long, same, c.loop-index-test.true, c.values-values.ensures.few)

pub loop-index-preserved : goal.loop-index-preserved
loop-index-preserved c =
    c.push.ensures ∙ (λ j. c.loop-index.invariant j ++ c.translated.ensures j ∷ [])
    ∙ sym (map_next (views.translated c.args.types.now) c.values-values.result.now c.loop-index.index c.value_at.result c.value_at.ensures)

pub returns : goal.returns
returns c =
    let end : c.loop-index.index ≡ length c.values-values.result.now = omega arith in
    c.loop-index.invariant ∙ ap (map (views.translated c.args.types.now)) (take_all c.values-values.result.now c.loop-index.index end ∙ c.values-values.ensures.value)
