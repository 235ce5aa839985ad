use Rattle.std.proofs.Common.{List, Ok, sym, ap, ◌∙◌}
use Rattle.sp_rules.specs.declared.fact.Step.{Step}
use Rattle.sp_cert.specs.Input.{Outcome}
use Rattle.std.proofs.lemmas.Result.{err_from_is_err_and}
use Rattle.sp_cert.proofs.Turns.{step_refused, step_added, steps_read}
use Rattle.sp_cert.proofs.read.steps.Goals as goal

pub returns-in_err-step : goal.returns-in_err-step
returns-in_err-step c =
    let (d, u, v) = err_from_is_err_and c.from_residual.result c.from_residual.ensures.1 in
    step_refused _ c.loop-taken._taken c.loop-taken.steps.items c.loop-taken.lines c.loop-taken-test.true _ _ c.in_err-step.was c.step.ensures u v c.loop-taken.invariant

pub loop-taken-preserved : goal.loop-taken-preserved
loop-taken-preserved c =
    step_added _ c.loop-taken._taken c.loop-taken.steps.items c.loop-taken.lines c.loop-taken-test.true _ c.in_ok-step.was c.step.ensures c.in_ok-push.ensures.items c.loop-taken.invariant

pub returns : goal.returns
returns c =
    steps_read _ c.loop-taken._taken c.loop-taken.steps.items c.loop-taken.lines c.loop-taken-test.false c.loop-taken.invariant ∙ ap (λ (l : List Step). let r : Outcome (List Step) = Ok (l, c.loop-taken.lines) in r) (sym c.new.ensures)
