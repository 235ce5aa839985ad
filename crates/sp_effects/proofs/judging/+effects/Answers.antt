use Rattle.std.proofs.Common.{◌≡◌, sym, ◌∙◌, ap, arith, suc, ◌+◌, map, length, take}
use Rattle.std.specs.Prelude.{◌||◌}
use Rattle.sp_text.specs.Violations.{first}
use Rattle.sp_effects.specs.EffectRules.{effect_broken, effects_broken}
use Rattle.sp_effects.specs.EffectText.{effect_text, effect_texts_of, effect_weight, effect_weight_in, effect_binders, effect_binders_in, Forall}
use Rattle.sp_effects.specs.Forms.{may, may_in}
use Rattle.sp_effects.proofs.Lengths.{binders-part, formals_length, text_Forall, weight-part}
use Rattle.sp_effects.proofs.Lists.{broken-next, taken-next}
use Rattle.sp_effects.proofs.judging.+effects.Goals as goal

pub judge_effect-judge_effects-requires-in-Forall : goal.judge_effect-judge_effects-requires-in-Forall
judge_effect-judge_effects-requires-in-Forall t c =
    let ws = effect_texts_of (map effect_text c.in-Forall.body) in
    let e : effect_text c.args.w.now ≡ Forall c.in-Forall.field-0 c.in-Forall.variables ws = ap effect_text c.in-Forall.is ∙ text_Forall c.in-Forall.field-0 c.in-Forall.variables c.in-Forall.body in
    let b : effect_binders (effect_text c.args.w.now) ≡ length c.in-Forall.variables + effect_binders_in ws = ap effect_binders e in
    let w : effect_weight (effect_text c.args.w.now) ≡ suc (length c.in-Forall.variables + effect_weight_in ws) = ap effect_weight e in
    let l : length c.deref.result.now ≡ length c.args.locals.now + length c.items-variables.result.now = ap length (c.deref.ensures.value ∙ c.in_ok-around-in-Forall.ensures) ∙ formals_length c.args.scope.now c.args.locals.now c.items-variables.result.now in
    let n : length c.items-variables.result.now ≡ length c.in-Forall.variables = ap length c.items-variables.ensures in
    let v : effect_weight_in (effect_texts_of (map effect_text c.as_slice-in-Forall.result.now)) ≡ effect_weight_in ws = ap (λ z. effect_weight_in (effect_texts_of (map effect_text z))) c.as_slice-in-Forall.ensures in
    let u : effect_binders_in (effect_texts_of (map effect_text c.as_slice-in-Forall.result.now)) ≡ effect_binders_in ws = ap (λ z. effect_binders_in (effect_texts_of (map effect_text z))) c.as_slice-in-Forall.ensures in
    (omega (arith, w, v), (c.requires.fine, (omega (arith, c.requires.room, b, l, n, u), omega (arith, c.requires.few, b, n, u))))

pub judge_effects-judge_effect-requires : goal.judge_effects-judge_effect-requires
judge_effects-judge_effect-requires t c =
    let w = weight-part c.args.ws.now c.loop-w.w-index c.w-item.result c.loop-w-test.true c.w-item.is in
    let b = binders-part c.args.ws.now c.loop-w.w-index c.w-item.result c.loop-w-test.true c.w-item.is in
    (omega (arith, w), (c.requires.fine, (omega (arith, c.requires.room, b), omega (arith, c.requires.few, b))))

pub judge_effects-loop-w-preserved : goal.judge_effects-loop-w-preserved
judge_effects-loop-w-preserved t c =
    let s = c.args.scope.now in
    let n = c.args.formals in
    let r = c.args.answer.now in
    let b = c.args.bound in
    let l = c.args.locals.now in
    let taken = c.args.taken in
    let ws = c.args.ws.now in
    let k = c.loop-w.w-index in
    let w = c.w-item.result in
    let before = effects_broken s n r b l taken (effect_texts_of (map effect_text (take k ws))) in
    let after = taken || may_in r (effect_texts_of (map effect_text (take k ws))) in
    let one = c.in_ok-one.ensures ∙ ap (λ t. first (effect_broken s n r b l t (effect_text w))) c.loop-w.invariant.1 in (
      c.earlier-found.ensures before (effect_broken s n r b l after (effect_text w)) c.loop-w.invariant.0 one ∙ ap first (sym (broken-next s n r b l taken ws k w c.loop-w-test.true c.w-item.is)),
      c.taken_after-after.ensures ∙ ap (λ t. t || may r (effect_text w)) c.loop-w.invariant.1 ∙ taken-next taken r ws k w c.loop-w-test.true c.w-item.is,
    )
