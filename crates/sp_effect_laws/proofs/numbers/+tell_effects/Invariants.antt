use Rattle.std.proofs.Common.{◌+◌, ◌*◌, map}
use Rattle.sp_effects.specs.EffectText.{effect_text, effect_texts_of, effect_weight, effect_weight_in}
use Rattle.sp_effect_laws.proofs.numbers.+tell_effects.Given as goal

abbrev pub decreases-tell_effect : goal.decreases-tell_effect
decreases-tell_effect l = 2 * effect_weight (effect_text l.w.now)

abbrev pub decreases-tell_effect_numbers : goal.decreases-tell_effect_numbers
decreases-tell_effect_numbers l = 2 * effect_weight_in (effect_texts_of (map effect_text l.ws.now)) + 1
