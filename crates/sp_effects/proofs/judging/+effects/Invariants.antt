use Rattle.std.proofs.Common.{◌≡◌, ◌+◌, ◌*◌, map, take}
use Rattle.std.specs.Prelude.{◌||◌}
use Rattle.sp_text.specs.Violations.{first}
use Rattle.sp_effects.specs.EffectRules.{effects_broken}
use Rattle.sp_effects.specs.EffectText.{effect_text, effect_texts_of, effect_weight, effect_weight_in}
use Rattle.sp_effects.specs.Forms.{may_in}
use Rattle.sp_effects.proofs.judging.+effects.Given as goal

abbrev pub decreases-judge_effect : goal.decreases-judge_effect
decreases-judge_effect l = 2 * effect_weight (effect_text l.w.now)

abbrev pub decreases-judge_effects : goal.decreases-judge_effects
decreases-judge_effects l = 2 * effect_weight_in (effect_texts_of (map effect_text l.ws.now)) + 1

abbrev pub invariant-judge_effects-loop-w : goal.invariant-judge_effects-loop-w
invariant-judge_effects-loop-w l =
    (l.found ≡ first (effects_broken l.scope l.fn.formals l.answer l.fn.bound l.locals l.fn.taken (effect_texts_of (map effect_text (take l.w-index l.ws)))))
    × (l.after ≡ (l.fn.taken || may_in l.answer (effect_texts_of (map effect_text (take l.w-index l.ws)))))
