use Rattle.std.proofs.Common.{length, map}
use Rattle.sp_cert.specs.Tree.{tree}
use Rattle.sp_formulas.specs.Formulas.{formula_as}
use Rattle.sp_frame.specs.declared.refusal.Verdict.TheVariants as verdict
use Rattle.sp_report.specs.Headings.{interface_line}
use Rattle.sp_deciding.proofs.Closed.{made_closed}
use Rattle.sp_verify_command.specs.Judged.{closing_line, extra_line, judgement_lines}
use Rattle.sp_verify_command.proofs.Certified.{certified, closed}
use Rattle.sp_verify_command.proofs.Printing.{file_is, lines_are, told}
use Rattle.sp_verify_command.proofs.verify.told.Goals as goal

pub accept-accepted-requires-clause-closed : goal.accept-accepted-requires-clause-closed
accept-accepted-requires-clause-closed c =
    let p = c.args.spec in
    let fs = c.args.made.now in
    let ts = map tree c.args.certs.now in
    let ok = file_is p fs ts c.args.all.now c.refused_count-refused.result c.extra_count-extra.result verdict.Ok c.requires.judged c.refused_count-refused.ensures c.extra_count-extra.ensures (c.accepts.ensures.accepted c.if-accepts.true) in
    made_closed p fs (closed p c.certified_are_closed.ensures (map formula_as fs) ts (certified p (map formula_as fs) ts ok))

pub returns-then-accepts : goal.returns-then-accepts
returns-then-accepts c =
    let p = c.args.spec in
    let fs = c.args.made.now in
    let js = c.args.all.now in
    let k = c.refused_count-refused.result in
    let x = c.extra_count-extra.result in
    told p fs (map tree c.args.certs.now) js k x verdict.Ok c.requires.judged c.refused_count-refused.ensures c.extra_count-extra.ensures (c.accepts.ensures.accepted c.if-accepts.true) c.push_accepted.new.out.items
    (lines_are c.new-bytes.result.items c.print_interface.new.out.items c.push_judgements.new.out.items c.push_extra.new.out.items c.push_accepted.new.out.items (interface_line p) (judgement_lines 1 (map formula_as fs) js) (extra_line x)
    (closing_line (length fs) k verdict.Ok) c.new-bytes.ensures.items c.in_ok-print_interface.ensures.ok c.in_ok-push_judgements.ensures c.in_ok-push_extra.ensures c.in_ok-push_accepted.ensures)

pub returns : goal.returns
returns c =
    let p = c.args.spec in
    let fs = c.args.made.now in
    let js = c.args.all.now in
    let k = c.refused_count-refused.result in
    let x = c.extra_count-extra.result in
    told p fs (map tree c.args.certs.now) js k x verdict.Refused c.requires.judged c.refused_count-refused.ensures c.extra_count-extra.ensures (c.accepts.ensures.refused c.if-accepts.false) c.push_refused.new.out.items
    (lines_are c.new-bytes.result.items c.print_interface.new.out.items c.push_judgements.new.out.items c.push_extra.new.out.items c.push_refused.new.out.items (interface_line p) (judgement_lines 1 (map formula_as fs) js) (extra_line x)
    (closing_line (length fs) k verdict.Refused) c.new-bytes.ensures.items c.in_ok-print_interface.ensures.ok c.in_ok-push_judgements.ensures c.in_ok-push_extra.ensures c.in_ok-push_refused.ensures)
