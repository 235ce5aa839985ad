use Rattle.std.proofs.lemmas.Result.{err_from_is_err_and}
use Rattle.sp_frame.proofs.Connective.{loads_after, loads_refused}
use Rattle.sp_run_command.proofs.texts.load_run.Goals as goal

pub returns-in_err-script : goal.returns-in_err-script
returns-in_err-script g c =
    let p = err_from_is_err_and c.from_residual-in_err-script.result c.from_residual-in_err-script.ensures.1 in
    rw (p.1, p.2) (loads_after _ _ _ _ _ _ _ c.in_ok-system.system _ c.in_ok-system.ensures (loads_after _ _ _ _ _ _ _ c.in_ok-instance.instance _ c.in_ok-instance.ensures.loads (loads_refused _ _ _ _ _ _ _ c.in_err-script.ensures.loads)))
