use Rattle.std.proofs.Common.{◌≡◌, ◌<◌, sym, ap, ◌∙◌, subst}
use Rattle.sp_core.specs.Instances.{filling_of, machine_of}
use Rattle.sp_core.specs.Machine.{IsInvocation, level_of}
use Rattle.sp_core.specs.Values.{level_number}
use Rattle.sp_eval.specs.Settings.{Setting}
use Rattle.sp_eval.proofs.Own.{level_is, level_within, ready_level}
use Rattle.sp_eval.proofs.values.level.Goals as goal

pub value-requires : goal.value-requires
value-requires c =
    let same = c.new-evaluator.ensures.value in
    ready_level c.new-evaluator.result c.new-evaluator.ensures.setting c.args.i.now (subst (λ (s : Setting). IsInvocation (machine_of s.parts (filling_of s.instance)) c.args.i.now) (sym same) c.requires.invocation) c.functions.result.now (c.functions.ensures.value ∙ ap (λ (s : Setting). s.parts.functions) (sym same)) c.index-functions-i.result c.index-functions-i.is c.new.result c.new.ensures

pub returns-clause-value : goal.returns-clause-value
returns-clause-value c =
    let same = c.new-evaluator.ensures.value in
    c.level_number.ensures ∙ subst (λ (s : Setting). level_number c.value.result ≡ level_of (machine_of s.parts (filling_of s.instance)) c.args.i.now.fun c.args.i.now.args) same
    (level_is c.new-evaluator.result c.new-evaluator.ensures.setting c.args.i.now (subst (λ (s : Setting). IsInvocation (machine_of s.parts (filling_of s.instance)) c.args.i.now) (sym same) c.requires.invocation) c.functions.result.now (c.functions.ensures.value ∙ ap (λ (s : Setting). s.parts.functions) (sym same)) c.index-functions-i.result c.index-functions-i.is c.new.result c.new.ensures c.value.result c.value.ensures)

pub returns-clause-level : goal.returns-clause-level
returns-clause-level c =
    let same = c.new-evaluator.ensures.value in
    subst (λ n. n < c.args.spec.now.lattice.count) (sym c.level_number.ensures) (subst (λ (s : Setting). level_number c.value.result < s.parts.lattice.count) same
    (level_within c.new-evaluator.result c.new-evaluator.ensures.setting c.args.i.now (subst (λ (s : Setting). IsInvocation (machine_of s.parts (filling_of s.instance)) c.args.i.now) (sym same) c.requires.invocation) c.functions.result.now (c.functions.ensures.value ∙ ap (λ (s : Setting). s.parts.functions) (sym same)) c.index-functions-i.result c.index-functions-i.is c.new.result c.new.ensures c.value.result c.value.ensures))
