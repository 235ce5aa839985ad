use Rattle.std.proofs.lemmas.Result.{err_from_is_err_and}
use Rattle.sp_run_command.proofs.Preparing.{after_instance, after_script}
use Rattle.sp_run_command.proofs.texts.prepare.Goals as goal

pub returns-in_err-instance-clause-does : goal.returns-in_err-instance-clause-does
returns-in_err-instance-clause-does c =
    let p = err_from_is_err_and c.from_residual-in_err-instance.result c.from_residual-in_err-instance.ensures.1 in
    rw (p.1, p.2) (after_instance c.args.interface.now c.args.instance.now c.args.script.now c.args.texts.now c.in_ok-elaborated.elaborated c.in_ok-elaborated.ensures c.in_err-instance.field-0.0 c.in_err-instance.ensures.does)

pub returns-in_err-script-clause-does : goal.returns-in_err-script-clause-does
returns-in_err-script-clause-does c =
    let p = err_from_is_err_and c.from_residual-in_err-script.result c.from_residual-in_err-script.ensures.1 in
    rw (p.1, p.2) (after_script c.args.interface.now c.args.instance.now c.args.script.now c.args.texts.now c.in_ok-elaborated.elaborated c.in_ok-elaborated.ensures c.in_ok-instance.instance c.in_err-script.field-0.0 c.in_ok-instance.ensures.does c.in_err-script.ensures.does)
