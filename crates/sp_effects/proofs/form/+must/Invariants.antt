use Rattle.std.proofs.Common.{◌+◌, ◌*◌, map}
use Rattle.sp_effects.specs.EffectText.{effect_text, effect_texts_of, effect_weight, effect_weight_in}
use Rattle.sp_effects.proofs.form.+must.Given as goal

abbrev pub decreases-must : goal.decreases-must
decreases-must l = 2 * effect_weight (effect_text l.w.now)

abbrev pub decreases-must_in : goal.decreases-must_in
decreases-must_in l = 2 * effect_weight_in (effect_texts_of (map effect_text l.ws.now)) + 1
