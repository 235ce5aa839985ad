use Rattle.std.proofs.lemmas.Result.{err_from_is_err_and}
use Rattle.sp_frame.proofs.Connective.{prints_after}
use Rattle.sp_compare_command.proofs.Printing.{after_level}
use Rattle.sp_compare_command.proofs.compare.compare_work.Goals as goal

pub returns : goal.returns
returns c = prints_after _ _ _ c.in_ok-prepared.prepared _ c.in_ok-prepared.ensures.does (prints_after _ _ _ c.in_ok-bound.bound _ c.in_ok-bound.ensures.does c.answered.ensures)

pub returns-in_err-bound : goal.returns-in_err-bound
returns-in_err-bound c =
    let p = err_from_is_err_and c.from_residual-in_err-bound.result c.from_residual-in_err-bound.ensures.1 in
    rw (p.1, p.2) (after_level c.args.interface.now c.args.instance.now c.args.script.now c.args.level.now c.args.texts.now c.in_ok-prepared.prepared c.in_err-bound.field-0.0 c.in_ok-prepared.ensures.does c.in_err-bound.ensures.does)
