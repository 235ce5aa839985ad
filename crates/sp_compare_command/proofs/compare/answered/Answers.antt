use Rattle.std.proofs.Common.{◌≤◌, List, length, subst, sym}
use Rattle.sp_values.specs.declared.place.Invocation.{Invocation}
use Rattle.sp_core.specs.Instances.{filling_of, machine_of}
use Rattle.sp_core.specs.States.{entry_of}
use Rattle.sp_animator.specs.Comparing.{Compares, IsCompareFault}
use Rattle.sp_compare_command.proofs.Printing.{breaks, full_number, told}
use Rattle.sp_compare_command.proofs.compare.answered.Goals as goal

pub returns-in-Ok : goal.returns-in-Ok
returns-in-Ok c =
    let p = c.args.x.now.elaborated.spec in
    let i = c.args.x.now.instance in
    let es = c.new-start.result.entries in
    told p i c.args.x.now.script c.args.level es c.in-Ok.found c.told.result c.new-start.ensures
    (subst (λ (ks : List Invocation). Compares (machine_of p (filling_of i)) (entry_of es) c.args.level ks c.in-Ok.found) c.items.ensures c.in-Ok.ensures.compared) c.told.ensures

pub broken_off-requires-clause-number : goal.broken_off-requires-clause-number
broken_off-requires-clause-number c = λ e.
    full_number c.args.x.now.elaborated.spec c.args.x.now.instance c.items.result.now c.args.level c.new-start.result.entries c.in-Err.fault c.in-Err.ensures.fault
    (subst (λ (ks : List Invocation). length ks ≤ 10000) (sym c.items.ensures) c.requires.prepared.few) e

pub returns : goal.returns
returns c =
    let p = c.args.x.now.elaborated.spec in
    let i = c.args.x.now.instance in
    let es = c.new-start.result.entries in
    breaks p i c.args.x.now.script c.args.level es c.in-Err.fault c.broken_off.result c.new-start.ensures
    (subst (λ (ks : List Invocation). IsCompareFault (machine_of p (filling_of i)) (entry_of es) c.args.level ks c.in-Err.fault) c.items.ensures c.in-Err.ensures.fault) c.broken_off.ensures
