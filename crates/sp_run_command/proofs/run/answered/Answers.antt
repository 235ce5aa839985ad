use Rattle.std.proofs.Common.{◌∙◌, ◌≤◌, List, ap, inl, length, refl, subst, sym}
use Rattle.sp_values.specs.declared.place.Invocation.{Invocation}
use Rattle.sp_core.specs.declared.state.Entry.{Entry}
use Rattle.sp_core.specs.Instances.{filling_of, machine_of}
use Rattle.sp_core.specs.Machine.{initial_state}
use Rattle.sp_core.specs.States.{entry_of}
use Rattle.sp_animator.specs.Runs.{BreaksOff, RunsWithin}
use Rattle.sp_frame.specs.declared.refusal.Verdict.TheVariants as verdict
use Rattle.sp_frame.specs.Endings.{printed}
use Rattle.sp_run_command.specs.Run.{run_text}
use Rattle.sp_run_command.proofs.Printing.{breaks, full_number}
use Rattle.sp_run_command.proofs.run.answered.Goals as goal

pub returns-in-Ok : goal.returns-in-Ok
returns-in-Ok c =
    let p = c.args.x.now.elaborated.spec in
    let i = c.args.x.now.instance in
    let m = machine_of p (filling_of i) in
    let js = c.args.x.now.script in
    let as' = c.in-Ok.answers.items in
    let t = entry_of c.animate.new.state.entries in
    let from_none = subst (λ (es : List Entry). RunsWithin m (entry_of es) c.items.result.now as' t) c.new-state.ensures c.in-Ok.ensures.run in (
      printed (run_text p i js as') verdict.Ok,
      inl (as', t, subst (λ (ks : List Invocation). RunsWithin m initial_state ks as' t) c.items.ensures from_none, refl),
      c.in_ok-run_lines-in-Ok.ensures ∙ ap (run_text p i js) c.deref.ensures.value,
      refl,
    )

pub broken_off-requires-clause-number : goal.broken_off-requires-clause-number
broken_off-requires-clause-number c = λ e.
    full_number c.args.x.now.elaborated.spec c.args.x.now.instance c.items.result.now c.new-state.result.entries c.in-Err.fault _ c.in-Err.ensures.fault
    (subst (λ (ks : List Invocation). length ks ≤ 10000) (sym c.items.ensures) c.requires.few) e

pub returns : goal.returns
returns c =
    let m = machine_of c.args.x.now.elaborated.spec (filling_of c.args.x.now.instance) in
    let t = entry_of c.animate.new.state.entries in
    breaks c.args.x.now.elaborated.spec c.args.x.now.instance c.args.x.now.script c.new-state.result.entries c.in-Err.fault t c.broken_off.result c.new-state.ensures
    (subst (λ (ks : List Invocation). BreaksOff m (entry_of c.new-state.result.entries) ks c.in-Err.fault t) c.items.ensures c.in-Err.ensures.fault) c.broken_off.ensures
