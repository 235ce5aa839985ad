use Rattle.std.proofs.Common.{◌≡◌, sym, ◌∙◌, ap, arith, suc, ◌+◌, ◌++◌, append_assoc, map, length, take}
use Rattle.sp_effects.specs.EffectRules.{effect_quotes, effects_quotes}
use Rattle.sp_effects.specs.EffectText.{effect_text, effect_texts_of, effect_weight, effect_weight_in, effect_binders, effect_binders_in, Forall}
use Rattle.sp_effects.proofs.Lengths.{binders-part, formals_length, text_Forall, weight-part}
use Rattle.sp_effects.proofs.Branches.{if_quotes, on_ok}
use Rattle.sp_effects.proofs.Lists.{quotes-next}
use Rattle.sp_effects.proofs.quoting.+effect_quotes.Goals as goal

pub push_effects-push_effect-requires : goal.push_effects-push_effect-requires
push_effects-push_effect-requires t c =
    let w = weight-part c.args.ws.now c.loop-w.w-index c.w-item.result c.loop-w-test.true c.w-item.is in
    let b = binders-part c.args.ws.now c.loop-w.w-index c.w-item.result c.loop-w-test.true c.w-item.is in
    (omega (arith, w), (c.requires.fine, (omega (arith, c.requires.room, b), omega (arith, c.requires.few, b))))

pub push_effects-loop-w-preserved : goal.push_effects-loop-w-preserved
push_effects-loop-w-preserved t c =
    let s = c.args.scope.now in
    let n = c.args.formals in
    let r = c.args.answer.now in
    let b = c.args.bound in
    let l = c.args.locals.now in
    let ws = c.args.ws.now in
    let k = c.loop-w.w-index in
    let w = c.w-item.result in
    let one = effect_quotes s n r b l (effect_text w) in
    c.in_ok-push_effect.ensures ∙ ap (λ xs. xs ++ one) c.loop-w.invariant
    ∙ append_assoc c.args.out.now.items (effects_quotes s n r b l (effect_texts_of (map effect_text (take k ws)))) one
    ∙ ap (λ xs. c.args.out.now.items ++ xs) (sym (quotes-next s n r b l ws k w c.loop-w-test.true c.w-item.is))

pub push_effect-push_effects-requires-then-breaks_nothing : goal.push_effect-push_effects-requires-then-breaks_nothing
push_effect-push_effects-requires-then-breaks_nothing t c =
    let ws = effect_texts_of (map effect_text c.in-Forall.body) in
    let e : effect_text c.args.w.now ≡ Forall c.in-Forall.field-0 c.in-Forall.variables ws = ap effect_text c.in-Forall.is ∙ text_Forall c.in-Forall.field-0 c.in-Forall.variables c.in-Forall.body in
    let b : effect_binders (effect_text c.args.w.now) ≡ length c.in-Forall.variables + effect_binders_in ws = ap effect_binders e in
    let w : effect_weight (effect_text c.args.w.now) ≡ suc (length c.in-Forall.variables + effect_weight_in ws) = ap effect_weight e in
    let l : length c.deref.result.now ≡ length c.args.locals.now + length c.items-variables.result.now = ap length (c.deref.ensures.value ∙ c.in_ok-around-in-Forall.ensures) ∙ formals_length c.args.scope.now c.args.locals.now c.items-variables.result.now in
    let n : length c.items-variables.result.now ≡ length c.in-Forall.variables = ap length c.items-variables.ensures in
    let v : effect_weight_in (effect_texts_of (map effect_text c.as_slice-then-breaks_nothing.result.now)) ≡ effect_weight_in ws = ap (λ z. effect_weight_in (effect_texts_of (map effect_text z))) c.as_slice-then-breaks_nothing.ensures in
    let u : effect_binders_in (effect_texts_of (map effect_text c.as_slice-then-breaks_nothing.result.now)) ≡ effect_binders_in ws = ap (λ z. effect_binders_in (effect_texts_of (map effect_text z))) c.as_slice-then-breaks_nothing.ensures in
    (omega (arith, w, v), (c.requires.fine, (omega (arith, c.requires.room, b, l, n, u), omega (arith, c.requires.few, b, n, u))))

pub push_effect-returns-in_ok-push_effects-in-If : goal.push_effect-returns-in_ok-push_effects-in-If
push_effect-returns-in_ok-push_effects-in-If t c =
    let s = c.args.scope.now in
    let n = c.args.formals in
    let r = c.args.answer.now in
    let b = c.args.bound in
    let l = c.args.locals.now in
    let out = c.args.out.now.items in
    let A = effects_quotes s n r b l (effect_texts_of (map effect_text c.as_slice.result.now)) in
    let B = effects_quotes s n r b l (effect_texts_of (map effect_text c.as_slice-in-If.result.now)) in
    on_ok _ _ c.push_effects-in-If.result (λ h. h ∙ ap (λ xs. xs ++ B) c.in_ok-push_effects-in-If.ensures ∙ append_assoc out A B
    ∙ ap (λ xs. out ++ xs) (sym (if_quotes s n r b l c.args.w.now c.in-If.field-0 c.in-If.field-1 c.in-If.a c.in-If.b c.as_slice.result.now c.as_slice-in-If.result.now c.in-If.is c.as_slice.ensures c.as_slice-in-If.ensures)))
    c.push_effects-in-If.ensures
