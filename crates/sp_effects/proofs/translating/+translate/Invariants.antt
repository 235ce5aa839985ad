use Rattle.std.proofs.Common.{◌+◌, ◌*◌, map, length, take}
use Rattle.sp_effects.specs.EffectCore.{effects_core}
use Rattle.sp_effects.specs.EffectText.{effect_text, effect_texts_of, effect_weight, effect_weight_in}
use Rattle.sp_effects.specs.Made.{IsBuilt}
use Rattle.sp_effects.proofs.translating.+translate.Given as goal

abbrev pub decreases-translate_effect : goal.decreases-translate_effect
decreases-translate_effect l = 3 * effect_weight (effect_text l.w.now)

abbrev pub decreases-translate_forall : goal.decreases-translate_forall
decreases-translate_forall l = 3 * (length l.formals.now + effect_weight_in (effect_texts_of (map effect_text l.body.now))) + 2

abbrev pub decreases-translate_effects : goal.decreases-translate_effects
decreases-translate_effects l = 3 * effect_weight_in (effect_texts_of (map effect_text l.ws.now)) + 1

abbrev pub invariant-translate_effects-loop-w : goal.invariant-translate_effects-loop-w
invariant-translate_effects-loop-w l = IsBuilt (effects_core l.scope l.answer l.locals (effect_texts_of (map effect_text (take l.w-index l.ws)))) l.all
