use Rattle.std.proofs.Common.{subst, arith, map, take}
use Rattle.sp_effects.specs.EffectCore.{effect_core, effects_core}
use Rattle.sp_effects.specs.EffectText.{effect_text, effect_texts_of}
use Rattle.sp_effects.specs.Made.{IsBuilt}
use Rattle.sp_effects.proofs.Lengths.{binders-part, weight-part}
use Rattle.sp_effects.proofs.Lists.{core-next}
use Rattle.sp_effects.proofs.translating.+translate.Goals as goal

pub translate_effects-translate_effect-requires : goal.translate_effects-translate_effect-requires
translate_effects-translate_effect-requires t c =
    let w = weight-part c.args.ws.now c.loop-w.w-index c.w-item.result c.loop-w-test.true c.w-item.is in
    let b = binders-part c.args.ws.now c.loop-w.w-index c.w-item.result c.loop-w-test.true c.w-item.is in
    (omega (arith, w), (c.requires.fine, omega (arith, c.requires.room, b)))

pub translate_effects-loop-w-preserved : goal.translate_effects-loop-w-preserved
translate_effects-loop-w-preserved t c =
    let s = c.args.scope.now in
    let r = c.args.answer.now in
    let l = c.args.locals.now in
    let ws = c.args.ws.now in
    let k = c.loop-w.w-index in
    let w = c.w-item.result in
    subst (λ ts. IsBuilt ts c.in_ok-all.all) (core-next s r l ws k w c.loop-w-test.true c.w-item.is)
    (c.in_ok-all.ensures (effects_core s r l (effect_texts_of (map effect_text (take k ws)))) (effect_core s r l (effect_text w)) c.loop-w.invariant c.in_ok-translate_effect.ensures)
