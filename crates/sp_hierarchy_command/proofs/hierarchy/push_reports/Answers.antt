use Rattle.std.proofs.Common.{◌∙◌, ◌++◌, ap, append-nil, arith, sym}
use Rattle.sp_hierarchy_command.proofs.Printing.{texts_end}
use Rattle.sp_hierarchy_command.proofs.hierarchy.push_reports.Goals as goal

pub returns : goal.returns
returns c =
    let k = c.loop-report.report-index in
    sym (append-nil c.loop-report.out.items) ∙ ap (λ t. c.loop-report.out.items ++ t) (sym (texts_end c.args.reports.now k (omega arith))) ∙ c.loop-report.invariant
