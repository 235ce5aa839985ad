use Rattle.std.proofs.Common.{◌+◌, ◌*◌, map}
use Rattle.sp_effects.specs.EffectText.{effect_text, effect_texts_of, effect_weight, effect_weight_in}
use Rattle.sp_effects.proofs.room.+effect_room.Given as goal

abbrev pub decreases-effect_fits : goal.decreases-effect_fits
decreases-effect_fits l = 2 * effect_weight (effect_text l.w.now)

abbrev pub decreases-effects_fit : goal.decreases-effects_fit
decreases-effects_fit l = 2 * effect_weight_in (effect_texts_of (map effect_text l.ws.now)) + 1
