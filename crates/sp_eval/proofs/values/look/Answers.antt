use Rattle.std.proofs.Common.{sym, ◌∙◌, ap, subst, ◌+◌, ◌<◌, length}
use Rattle.sp_core.specs.Measures.{rank}
use Rattle.sp_eval.specs.Conditions.{HasTypeOfRead, IsRead}
use Rattle.sp_eval.specs.Settings.{Setting}
use Rattle.sp_eval.proofs.Own.{look_has_type, ranked}
use Rattle.sp_eval.proofs.values.look.Goals as goal

pub look-requires-clause-read : goal.look-requires-clause-read
look-requires-clause-read c = subst (λ (s : Setting). IsRead s.parts s.instance c.args.p.now.fun c.args.p.now.args) (sym c.new.ensures.value) c.requires.place

pub look-requires-clause-rank : goal.look-requires-clause-rank
look-requires-clause-rank c =
    let same = ap (λ (s : Setting). s.parts.functions) c.new.ensures.value ∙ sym c.functions.ensures.value in
    subst (λ fs. rank c.new.result.parts.functions c.args.p.now.fun < length fs + 1) same (ranked c.new.result c.new.ensures.setting c.args.p.now.fun)

pub returns-clause-typed : goal.returns-clause-typed
returns-clause-typed c =
    subst (λ (s : Setting). HasTypeOfRead s.parts s.instance c.args.p.now.fun c.args.p.now.args c.look.result) c.new.ensures.value
    (look_has_type c.new.result c.new.ensures.setting c.args.p.now.fun c.args.p.now.args c.look.result c.look.ensures)
