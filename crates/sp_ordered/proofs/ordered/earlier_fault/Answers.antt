use Rattle.std.proofs.Common.{◌++◌}
use Rattle.sp_text.specs.Violations.{breaks, in_file}
use Rattle.sp_ordered.proofs.ordered.earlier_fault.Goals as goal

pub returns-in-Some : goal.returns-in-Some
returns-in-Some c = λ vs n.
    let own = breaks c.args.place c.args.rule in
    c.fault_of.ensures (vs ++ in_file 0 own) (c.earlier_in_files.ensures vs (in_file 0 own) (c.in-Some.ensures vs n) (c.in_file-order.ensures own c.breaks.ensures))
