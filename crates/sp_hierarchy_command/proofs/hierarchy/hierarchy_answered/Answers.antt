use Rattle.std.proofs.lemmas.Result.{err_from_is_err_and}
use Rattle.sp_frame.proofs.Connective.{prints_refused}
use Rattle.sp_frame.specs.Steps.{Each}
use Rattle.sp_frame.specs.Uncertified.{spells}
use Rattle.sp_hierarchy_command.specs.Hierarchy.{MemberAnswered}
use Rattle.sp_hierarchy_command.proofs.Printing.{all_told, mappings_stop}
use Rattle.sp_hierarchy_command.proofs.hierarchy.hierarchy_answered.Goals as goal

pub returns : goal.returns
returns c =
    all_told c.args.hierarchy.now c.in_ok-interfaces.interfaces c.in_ok-mappings.mappings c.items.result.now c.items-2.result.now c.in_ok-report.report c.items.ensures c.items-2.ensures c.in_ok-interfaces.ensures c.in_ok-mappings.ensures
    c.in_ok-report.ensures

pub returns-in_err-interfaces : goal.returns-in_err-interfaces
returns-in_err-interfaces c =
    let e = err_from_is_err_and c.from_residual.result c.from_residual.ensures.1 in
    rw (e.1, e.2) (prints_refused spells (Each MemberAnswered c.args.hierarchy.now.members) _ _ c.in_err-interfaces.ensures)

pub returns-in_err-mappings : goal.returns-in_err-mappings
returns-in_err-mappings c =
    let e = err_from_is_err_and c.from_residual-in_err-mappings.result c.from_residual-in_err-mappings.ensures.1 in
    rw (e.1, e.2) (mappings_stop c.args.hierarchy.now c.in_ok-interfaces.interfaces _ c.in_ok-interfaces.ensures c.in_err-mappings.ensures)
