use Rattle.std.proofs.Common.{◌≤◌, sym, ◌∙◌, ap, subst, arith, length, None, Some}
use Rattle.std.proofs.lemmas.Result.{err_from_is_err_and}
use Rattle.sp_text.specs.declared.limits.TheConstants.{MOST_CHANGED_PLACES}
use Rattle.sp_core.specs.declared.function.Function.{Function}
use Rattle.sp_core.specs.Effects.{changes_in}
use Rattle.sp_core.specs.Instances.{filling_of, machine_of, world_of}
use Rattle.sp_core.specs.States.{entry_of}
use Rattle.sp_core.specs.Values.{look}
use Rattle.sp_stepping.specs.Stepping.{IsChangeFault, IsStepFault}
use Rattle.sp_stepping.proofs.StepLemmas.{both_trees, call_of, conditions, excepted, few_exceptions, first_number, has_result, looked, operated, operated_with, operation_trees, own_index, read_kind, read_of, refused, stepped}
use Rattle.sp_stepping.proofs.stepping.step.Goals as goal

pub first_true-requires-clause-conditions : goal.first_true-requires-clause-conditions
first_true-requires-clause-conditions c =
    let v = c.requires.invocation in
    let same = own_index c.args.spec.now c.args.inst.now c.args.state.now.entries c.args.i.now v.0 v.1 c.functions.result.now c.functions.ensures.value c.index-functions-i.result c.index-functions-i.is in
    conditions c.args.spec.now c.args.inst.now c.args.state.now.entries c.args.i.now v.0 v.1 c.functions.ensures.well_formed c.requires.given.instance c.new-env.result c.new-env.ensures c.items-exceptions.result.now (c.items-exceptions.ensures ∙ ap (λ (g : Function). g.exceptions) same)

pub first_true-requires-clause-few : goal.first_true-requires-clause-few
first_true-requires-clause-few c =
    let v = c.requires.invocation in
    let same = own_index c.args.spec.now c.args.inst.now c.args.state.now.entries c.args.i.now v.0 v.1 c.functions.result.now c.functions.ensures.value c.index-functions-i.result c.index-functions-i.is in
    let few = few_exceptions c.args.spec.now c.args.inst.now c.args.state.now.entries c.args.i.now v.0 v.1 c.functions.ensures.well_formed c.items-exceptions.result.now (c.items-exceptions.ensures ∙ ap (λ (g : Function). g.exceptions) same) in
    omega (arith, few)

pub returns-in-Some-clause-step : goal.returns-in-Some-clause-step
returns-in-Some-clause-step c =
    let v = c.requires.invocation in
    let same = own_index c.args.spec.now c.args.inst.now c.args.state.now.entries c.args.i.now v.0 v.1 c.functions.result.now c.functions.ensures.value c.index-functions-i.result c.index-functions-i.is in
    excepted c.args.spec.now c.args.inst.now c.args.state.now.entries c.args.i.now v.0 v.1 c.in-Some.number (first_number (machine_of c.args.spec.now (filling_of c.args.inst.now)) (entry_of c.args.state.now.entries) c.args.i.now v.0 c.new-env.result c.new-env.ensures c.items-exceptions.result.now (c.items-exceptions.ensures ∙ ap (λ (g : Function). g.exceptions) same) (Some c.in-Some.number) (sym c.in-Some.is ∙ c.first_true.ensures))

pub operate-requires : goal.operate-requires
operate-requires c =
    let v = c.requires.invocation in
    let same = own_index c.args.spec.now c.args.inst.now c.args.state.now.entries c.args.i.now v.0 v.1 c.functions.result.now c.functions.ensures.value c.index-functions-i.result c.index-functions-i.is in
    call_of c.args.spec.now c.args.inst.now c.args.state.now.entries c.args.i.now v.0 v.1 c.functions.ensures.well_formed c.requires.given c.room_of-room.ensures.apart c.room_of-room.result c.room_of-room.ensures.value c.as_slice.result.now (operation_trees c.args.spec.now c.args.inst.now c.args.state.now.entries c.args.i.now v.0 v.1 c.index-functions-i.result same c.in-Operation.effects c.as_slice.result.now c.in-Operation.is c.as_slice.ensures)

pub returns-in_err-operate-in-Operation-clause-fault : goal.returns-in_err-operate-in-Operation-clause-fault
returns-in_err-operate-in-Operation-clause-fault c =
    let v = c.requires.invocation in
    let same = own_index c.args.spec.now c.args.inst.now c.args.state.now.entries c.args.i.now v.0 v.1 c.functions.result.now c.functions.ensures.value c.index-functions-i.result c.index-functions-i.is in
    let plain = first_number (machine_of c.args.spec.now (filling_of c.args.inst.now)) (entry_of c.args.state.now.entries) c.args.i.now v.0 c.new-env.result c.new-env.ensures c.items-exceptions.result.now (c.items-exceptions.ensures ∙ ap (λ (g : Function). g.exceptions) same) None (sym c.in_default.is ∙ c.first_true.ensures) in
    let h : IsStepFault (machine_of c.args.spec.now (filling_of c.args.inst.now)) (entry_of c.args.state.now.entries) c.args.i.now c.in_err-operate-in-Operation.field-0.0 =
    refused c.args.spec.now c.args.inst.now c.args.state.now.entries c.args.i.now v.0 v.1 plain c.in_err-operate-in-Operation.field-0.0 (subst (λ ts. IsChangeFault (machine_of c.args.spec.now (filling_of c.args.inst.now)) (entry_of c.args.state.now.entries) c.args.i.now (changes_in ts) c.in_err-operate-in-Operation.field-0.0) (sym (operation_trees c.args.spec.now c.args.inst.now c.args.state.now.entries c.args.i.now v.0 v.1 c.index-functions-i.result same c.in-Operation.effects c.as_slice.result.now c.in-Operation.is c.as_slice.ensures)) c.in_err-operate-in-Operation.ensures.fault) in
    let p = err_from_is_err_and c.from_residual.result c.from_residual.ensures.1 in
    rw (p.1, p.2) h

pub returns-in_ok-operate-in-Operation-clause-step : goal.returns-in_ok-operate-in-Operation-clause-step
returns-in_ok-operate-in-Operation-clause-step c =
    let v = c.requires.invocation in
    let same = own_index c.args.spec.now c.args.inst.now c.args.state.now.entries c.args.i.now v.0 v.1 c.functions.result.now c.functions.ensures.value c.index-functions-i.result c.index-functions-i.is in
    let plain = first_number (machine_of c.args.spec.now (filling_of c.args.inst.now)) (entry_of c.args.state.now.entries) c.args.i.now v.0 c.new-env.result c.new-env.ensures c.items-exceptions.result.now (c.items-exceptions.ensures ∙ ap (λ (g : Function). g.exceptions) same) None (sym c.in_default.is ∙ c.first_true.ensures) in
    operated c.args.spec.now c.args.inst.now c.args.state.now.entries c.args.i.now v.0 v.1 plain c.index-functions-i.result same c.in-Operation.effects c.as_slice.result.now c.in-Operation.is c.as_slice.ensures (entry_of c.operate.new.state.entries) c.in_ok-operate-in-Operation.ensures.changed

pub returns-in_ok-operate-in-Operation-clause-state : goal.returns-in_ok-operate-in-Operation-clause-state
returns-in_ok-operate-in-Operation-clause-state c =
    let v = c.requires.invocation in
    let same = own_index c.args.spec.now c.args.inst.now c.args.state.now.entries c.args.i.now v.0 v.1 c.functions.result.now c.functions.ensures.value c.index-functions-i.result c.index-functions-i.is in
    let plain = first_number (machine_of c.args.spec.now (filling_of c.args.inst.now)) (entry_of c.args.state.now.entries) c.args.i.now v.0 c.new-env.result c.new-env.ensures c.items-exceptions.result.now (c.items-exceptions.ensures ∙ ap (λ (g : Function). g.exceptions) same) None (sym c.in_default.is ∙ c.first_true.ensures) in
    stepped c.args.spec.now c.args.inst.now c.args.state.now.entries c.args.i.now v.0 v.1 c.functions.ensures.well_formed c.requires.given _ (entry_of c.operate.new.state.entries) (operated c.args.spec.now c.args.inst.now c.args.state.now.entries c.args.i.now v.0 v.1 plain c.index-functions-i.result same c.in-Operation.effects c.as_slice.result.now c.in-Operation.is c.as_slice.ensures (entry_of c.operate.new.state.entries) c.in_ok-operate-in-Operation.ensures.changed)

pub operate_with_result-requires-clause-call : goal.operate_with_result-requires-clause-call
operate_with_result-requires-clause-call c =
    let v = c.requires.invocation in
    let same = own_index c.args.spec.now c.args.inst.now c.args.state.now.entries c.args.i.now v.0 v.1 c.functions.result.now c.functions.ensures.value c.index-functions-i.result c.index-functions-i.is in
    call_of c.args.spec.now c.args.inst.now c.args.state.now.entries c.args.i.now v.0 v.1 c.functions.ensures.well_formed c.requires.given c.room_of-room.ensures.apart c.room_of-room.result c.room_of-room.ensures.value c.as_slice-effects.result.now (both_trees c.args.spec.now c.args.inst.now c.args.state.now.entries c.args.i.now v.0 v.1 c.index-functions-i.result same c.in-Both.field-0 c.in-Both.effects c.as_slice-effects.result.now c.in-Both.is c.as_slice-effects.ensures)

pub operate_with_result-requires-clause-results : goal.operate_with_result-requires-clause-results
operate_with_result-requires-clause-results c =
    let v = c.requires.invocation in
    let same = own_index c.args.spec.now c.args.inst.now c.args.state.now.entries c.args.i.now v.0 v.1 c.functions.result.now c.functions.ensures.value c.index-functions-i.result c.index-functions-i.is in
    has_result c.args.spec.now c.args.inst.now c.args.state.now.entries c.args.i.now v.0 v.1 c.functions.ensures.well_formed c.index-functions-i.result same c.in-Both.field-0 c.in-Both.effects c.as_slice-effects.result.now c.in-Both.is c.as_slice-effects.ensures

pub returns-in_err-value-in-Both-clause-fault : goal.returns-in_err-value-in-Both-clause-fault
returns-in_err-value-in-Both-clause-fault c =
    let v = c.requires.invocation in
    let same = own_index c.args.spec.now c.args.inst.now c.args.state.now.entries c.args.i.now v.0 v.1 c.functions.result.now c.functions.ensures.value c.index-functions-i.result c.index-functions-i.is in
    let plain = first_number (machine_of c.args.spec.now (filling_of c.args.inst.now)) (entry_of c.args.state.now.entries) c.args.i.now v.0 c.new-env.result c.new-env.ensures c.items-exceptions.result.now (c.items-exceptions.ensures ∙ ap (λ (g : Function). g.exceptions) same) None (sym c.in_default.is ∙ c.first_true.ensures) in
    let h : IsStepFault (machine_of c.args.spec.now (filling_of c.args.inst.now)) (entry_of c.args.state.now.entries) c.args.i.now c.in_err-value-in-Both.field-0.0 =
    refused c.args.spec.now c.args.inst.now c.args.state.now.entries c.args.i.now v.0 v.1 plain c.in_err-value-in-Both.field-0.0 (subst (λ ts. IsChangeFault (machine_of c.args.spec.now (filling_of c.args.inst.now)) (entry_of c.args.state.now.entries) c.args.i.now (changes_in ts) c.in_err-value-in-Both.field-0.0) (sym (both_trees c.args.spec.now c.args.inst.now c.args.state.now.entries c.args.i.now v.0 v.1 c.index-functions-i.result same c.in-Both.field-0 c.in-Both.effects c.as_slice-effects.result.now c.in-Both.is c.as_slice-effects.ensures)) c.in_err-value-in-Both.ensures.fault) in
    let p = err_from_is_err_and c.from_residual-in_err-value-in-Both.result c.from_residual-in_err-value-in-Both.ensures.1 in
    rw (p.1, p.2) h

pub returns-in_ok-value-in-Both-clause-step : goal.returns-in_ok-value-in-Both-clause-step
returns-in_ok-value-in-Both-clause-step c =
    let v = c.requires.invocation in
    let same = own_index c.args.spec.now c.args.inst.now c.args.state.now.entries c.args.i.now v.0 v.1 c.functions.result.now c.functions.ensures.value c.index-functions-i.result c.index-functions-i.is in
    let plain = first_number (machine_of c.args.spec.now (filling_of c.args.inst.now)) (entry_of c.args.state.now.entries) c.args.i.now v.0 c.new-env.result c.new-env.ensures c.items-exceptions.result.now (c.items-exceptions.ensures ∙ ap (λ (g : Function). g.exceptions) same) None (sym c.in_default.is ∙ c.first_true.ensures) in
    operated_with c.args.spec.now c.args.inst.now c.args.state.now.entries c.args.i.now v.0 v.1 plain c.index-functions-i.result same c.in-Both.field-0 c.in-Both.effects c.as_slice-effects.result.now c.in-Both.is c.as_slice-effects.ensures (entry_of c.operate_with_result.new.state.entries) c.in_ok-value-in-Both.value c.in_ok-value-in-Both.ensures.changed c.in_ok-value-in-Both.ensures.value

pub returns-in_ok-value-in-Both-clause-state : goal.returns-in_ok-value-in-Both-clause-state
returns-in_ok-value-in-Both-clause-state c =
    let v = c.requires.invocation in
    let same = own_index c.args.spec.now c.args.inst.now c.args.state.now.entries c.args.i.now v.0 v.1 c.functions.result.now c.functions.ensures.value c.index-functions-i.result c.index-functions-i.is in
    let plain = first_number (machine_of c.args.spec.now (filling_of c.args.inst.now)) (entry_of c.args.state.now.entries) c.args.i.now v.0 c.new-env.result c.new-env.ensures c.items-exceptions.result.now (c.items-exceptions.ensures ∙ ap (λ (g : Function). g.exceptions) same) None (sym c.in_default.is ∙ c.first_true.ensures) in
    stepped c.args.spec.now c.args.inst.now c.args.state.now.entries c.args.i.now v.0 v.1 c.functions.ensures.well_formed c.requires.given _ (entry_of c.operate_with_result.new.state.entries) (operated_with c.args.spec.now c.args.inst.now c.args.state.now.entries c.args.i.now v.0 v.1 plain c.index-functions-i.result same c.in-Both.field-0 c.in-Both.effects c.as_slice-effects.result.now c.in-Both.is c.as_slice-effects.ensures (entry_of c.operate_with_result.new.state.entries) c.in_ok-value-in-Both.value c.in_ok-value-in-Both.ensures.changed c.in_ok-value-in-Both.ensures.value)

pub look-requires-clause-place : goal.look-requires-clause-place
look-requires-clause-place c =
    let v = c.requires.invocation in
    let same = own_index c.args.spec.now c.args.inst.now c.args.state.now.entries c.args.i.now v.0 v.1 c.functions.result.now c.functions.ensures.value c.index-functions-i.result c.index-functions-i.is in
    let type = read_kind c.args.spec.now c.args.inst.now c.args.state.now.entries c.args.i.now v.0 v.1 c.index-functions-i.result same c.in-Primitive.is in
    read_of c.args.spec.now c.args.inst.now c.args.state.now.entries c.args.i.now v.0 v.1 type.0 type.1 c.new-args.result (c.new-args.ensures ∙ c.values.ensures.value) c.functions.ensures.well_formed c.requires.given.instance

pub returns-in-Primitive-clause-step : goal.returns-in-Primitive-clause-step
returns-in-Primitive-clause-step c =
    let v = c.requires.invocation in
    let same = own_index c.args.spec.now c.args.inst.now c.args.state.now.entries c.args.i.now v.0 v.1 c.functions.result.now c.functions.ensures.value c.index-functions-i.result c.index-functions-i.is in
    let plain = first_number (machine_of c.args.spec.now (filling_of c.args.inst.now)) (entry_of c.args.state.now.entries) c.args.i.now v.0 c.new-env.result c.new-env.ensures c.items-exceptions.result.now (c.items-exceptions.ensures ∙ ap (λ (g : Function). g.exceptions) same) None (sym c.in_default.is ∙ c.first_true.ensures) in
    let type = read_kind c.args.spec.now c.args.inst.now c.args.state.now.entries c.args.i.now v.0 v.1 c.index-functions-i.result same c.in-Primitive.is in
    let few : length c.args.state.now.entries ≤ MOST_CHANGED_PLACES = omega (arith, c.room_of-room.ensures.value) in
    looked c.args.spec.now c.args.inst.now c.args.state.now.entries c.args.i.now v.0 v.1 plain c.room_of-room.ensures.apart few type.0 type.1 c.look.result
    (c.look.ensures.value ∙ ap (look (world_of c.args.spec.now (filling_of c.args.inst.now)) c.args.spec.now.functions (entry_of c.args.state.now.entries) c.args.i.now.fun) (c.new-args.ensures ∙ c.values.ensures.value))
