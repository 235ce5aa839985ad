use Rattle.std.proofs.Common.{◌++◌, sym, subst}
use Rattle.sp_text.specs.Violations.{NamesInFile, in_file}
use Rattle.sp_ordered.proofs.Told.{same_fault, told_flaw, told_nothing}
use Rattle.sp_ordered.proofs.ordered.earliest_fault.Goals as goal

pub returns-in-Flawed : goal.returns-in-Flawed
returns-in-Flawed c = λ i vs o t at j n.
    let f = c.earlier_fault.result in
    let is = told_flaw i c.args.order.now c.in-Flawed.rule c.args.place t c.in-Flawed.is at o j in
    subst (λ ws. NamesInFile (vs ++ in_file 0 ws) f.file f.fault) (sym is) (c.earlier_fault.ensures vs n)

pub returns-in-Kept : goal.returns-in-Kept
returns-in-Kept c = λ i vs o t at j n.
    let f = c.args.refused in
    same_fault vs o f.file f.fault (told_nothing i c.args.order.now c.in-Kept.field-0 t c.in-Kept.is o j) n
