use Rattle.std.proofs.lemmas.Result.{err_from_is_err_and}
use Rattle.sp_sample_command.proofs.Reading.{read_refused}
use Rattle.sp_sample_command.proofs.texts.sample_system.Goals as goal

pub returns-in_err-sample : goal.returns-in_err-sample
returns-in_err-sample c =
    let e = err_from_is_err_and c.from_residual-in_err-sample.result c.from_residual-in_err-sample.ensures.1 in
    rw (e.1, e.2)
    (read_refused c.args.size c.in_ok-interface.interface c.in_ok-module.module _ c.in_ok-interface.ensures c.in_ok-module.ensures c.in_err-sample.ensures)
