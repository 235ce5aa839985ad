use Rattle.std.proofs.Common.{◌≡◌, ◌+◌, ◌*◌, ◌++◌, map, take}
use Rattle.sp_effects.specs.EffectRules.{effects_quotes}
use Rattle.sp_effects.specs.EffectText.{effect_text, effect_texts_of, effect_weight, effect_weight_in}
use Rattle.sp_effects.proofs.quoting.+effect_quotes.Given as goal

abbrev pub decreases-push_effect : goal.decreases-push_effect
decreases-push_effect l = 2 * effect_weight (effect_text l.w.now)

abbrev pub decreases-push_effects : goal.decreases-push_effects
decreases-push_effects l = 2 * effect_weight_in (effect_texts_of (map effect_text l.ws.now)) + 1

abbrev pub invariant-push_effects-loop-w : goal.invariant-push_effects-loop-w
invariant-push_effects-loop-w l = l.out.items ≡ l.initial.out.items ++ effects_quotes l.scope l.fn.formals l.answer l.fn.bound l.locals (effect_texts_of (map effect_text (take l.w-index l.ws)))
