use Rattle.std.proofs.Common.{◌∙◌, ap, sym, true, false, cond, None, Some, Option}
use Rattle.std.specs.Option.{is_some}
use Rattle.sp_rules.specs.Facts.{holds_in}
use Rattle.sp_cert.specs.declared.cert.CertFault.{CertFault}
use Rattle.sp_cert.specs.declared.cert.CertFault.TheVariants.{NoClash}
use Rattle.sp_cert.specs.Checks.{bad_step, ends_in_clash}
use Rattle.sp_checker.specs.Known.{judge}
use Rattle.sp_checker.proofs.Faults.{same_tables, none_fault, first_some, leaf_by}
use Rattle.sp_checker.proofs.Trails.{laid_nothing}
use Rattle.sp_checker.proofs.walk.leaf_fault.Goals as goal

abbrev none : Option CertFault
none = None

pub returns-then-is_some-clause-same : goal.returns-then-is_some-clause-same
returns-then-is_some-clause-same c =
    same_tables c.args.eq.now c.args.le.now c.undo.new.eq c.undo.new.le c.tell_within.ensures.table c.tell_within-2.ensures.table c.tell_within-3.ensures.table c.tell_within-4.ensures.table
    (c.undo.ensures.eq ∙ c.follow-done.ensures.eq) (c.undo.ensures.le ∙ c.follow-done.ensures.le) (c.undo.ensures.has (holds_in c.args.eq.now c.args.le.now) (c.follow-done.ensures.trailed (holds_in c.args.eq.now c.args.le.now) c.args.from (laid_nothing (holds_in c.args.eq.now c.args.le.now) c.args.trail.now c.args.from)))

pub returns-then-done-clause-same : goal.returns-then-done-clause-same
returns-then-done-clause-same c =
    same_tables c.args.eq.now c.args.le.now c.undo.new.eq c.undo.new.le c.tell_within.ensures.table c.tell_within-2.ensures.table c.tell_within-3.ensures.table c.tell_within-4.ensures.table
    (c.undo.ensures.eq ∙ c.follow-done.ensures.eq) (c.undo.ensures.le ∙ c.follow-done.ensures.le) (c.undo.ensures.has (holds_in c.args.eq.now c.args.le.now) (c.follow-done.ensures.trailed (holds_in c.args.eq.now c.args.le.now) c.args.from (laid_nothing (holds_in c.args.eq.now c.args.le.now) c.args.trail.now c.args.from)))

pub returns-else-done-clause-same : goal.returns-else-done-clause-same
returns-else-done-clause-same c =
    same_tables c.args.eq.now c.args.le.now c.undo.new.eq c.undo.new.le c.tell_within.ensures.table c.tell_within-2.ensures.table c.tell_within-3.ensures.table c.tell_within-4.ensures.table
    (c.undo.ensures.eq ∙ c.follow-done.ensures.eq) (c.undo.ensures.le ∙ c.follow-done.ensures.le) (c.undo.ensures.has (holds_in c.args.eq.now c.args.le.now) (c.follow-done.ensures.trailed (holds_in c.args.eq.now c.args.le.now) c.args.from (laid_nothing (holds_in c.args.eq.now c.args.le.now) c.args.trail.now c.args.from)))

pub returns-then-is_some-clause-fault : goal.returns-then-is_some-clause-fault
returns-then-is_some-clause-fault c = λ atoms.
    let j = judge c.args.terms.now atoms in
    let h = holds_in c.args.eq.now c.args.le.now in
    let bad = c.follow-done.ensures.fault atoms in
    bad ∙ sym (first_some (bad_step j h c.args.count.now c.args.steps.now) (cond (ends_in_clash j false c.args.steps.now) none (Some (NoClash c.args.node)))
    (ap is_some (sym bad) ∙ sym c.is_some.ensures ∙ c.if-is_some.true))

pub returns-then-done-clause-fault : goal.returns-then-done-clause-fault
returns-then-done-clause-fault c = λ atoms.
    let j = judge c.args.terms.now atoms in
    let h = holds_in c.args.eq.now c.args.le.now in
    let nothing = none_fault c.follow-done.result.fault (sym c.is_some.ensures ∙ c.if-is_some.false) in
    sym (leaf_by j h c.args.node c.args.count.now c.args.steps.now true (sym (c.follow-done.ensures.fault atoms) ∙ nothing) (sym c.if-done.true ∙ c.follow-done.ensures.clash atoms nothing))

pub returns-else-done-clause-fault : goal.returns-else-done-clause-fault
returns-else-done-clause-fault c = λ atoms.
    let j = judge c.args.terms.now atoms in
    let h = holds_in c.args.eq.now c.args.le.now in
    let nothing = none_fault c.follow-done.result.fault (sym c.is_some.ensures ∙ c.if-is_some.false) in
    sym (leaf_by j h c.args.node c.args.count.now c.args.steps.now false (sym (c.follow-done.ensures.fault atoms) ∙ nothing) (sym c.if-done.false ∙ c.follow-done.ensures.clash atoms nothing))
