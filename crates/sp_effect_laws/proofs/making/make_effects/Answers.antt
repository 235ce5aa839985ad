use Rattle.std.proofs.Common.{◌≡◌, sym, ◌∙◌, [], map}
use Rattle.sp_text.specs.Violations.{sooner}
use Rattle.sp_text.proofs.Firsts.{first_by_none}
use Rattle.sp_effects.specs.EffectCore.{effects_core}
use Rattle.sp_effects.specs.EffectRules.{body_broken}
use Rattle.sp_effects.specs.EffectText.{effect_text, effect_texts_of}
use Rattle.sp_effect_laws.proofs.Within.{body_made, made_there}
use Rattle.sp_effect_laws.proofs.making.make_effects.Goals as goal

pub taken-requires : goal.taken-requires
taken-requires c =
    let s = c.args.scope.now in
    let l = c.args.formals.now in
    let r = c.args.answer.now in
    let ws = effect_texts_of (map effect_text c.args.ws.now) in
    let none = first_by_none sooner (body_broken s c.args.place l r ws) (sym c.in_ok-found.ensures ∙ c.in-None.is) in
    made_there (effects_core s r l ws) c.in_ok-made-in-None.made c.in_ok-made-in-None.ensures (body_made s c.args.place l r ws none)

pub returns-in_ok-made-in-None : goal.returns-in_ok-made-in-None
returns-in_ok-made-in-None c =
    let s = c.args.scope.now in
    let l = c.args.formals.now in
    let r = c.args.answer.now in
    let ws = effect_texts_of (map effect_text c.args.ws.now) in
    (first_by_none sooner (body_broken s c.args.place l r ws) (sym c.in_ok-found.ensures ∙ c.in-None.is), c.taken.ensures (effects_core s r l ws) c.in_ok-made-in-None.ensures)
