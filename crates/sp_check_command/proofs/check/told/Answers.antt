use Rattle.std.proofs.Common.{◌≡◌, arith, length, map, refl}
use Rattle.sp_formulas.specs.Formulas.{formula_as}
use Rattle.sp_frame.specs.declared.refusal.Verdict.TheVariants as verdict
use Rattle.sp_report.specs.Headings.{interface_line}
use Rattle.sp_deciding.specs.Decided.{open_count}
use Rattle.sp_deciding.specs.Verdicts.{all_lines, last_line}
use Rattle.sp_deciding.proofs.Closed.{made_closed}
use Rattle.sp_check_command.proofs.Printing.{accepts, lines_are, refuses, told}
use Rattle.sp_check_command.proofs.check.told.Goals as goal

pub returns-then-open-gt0 : goal.returns-then-open-gt0
returns-then-open-gt0 c =
    let p = c.args.spec in
    let fs = c.args.made.now in
    let ds = c.args.decisions.now in
    let k = c.open_count-open.result in
    told p fs ds k c.push_refused.new.out.items verdict.Refused c.open_count-open.ensures.count
    (lines_are c.new-bytes.result.items c.print_interface.new.out.items c.push_decisions.new.out.items c.push_refused.new.out.items (interface_line p) (all_lines p 1 (map formula_as fs) ds) (last_line (length fs) k)
    c.new-bytes.ensures.items c.in_ok-print_interface.ensures.ok c.in_ok-push_decisions.ensures c.in_ok-push_refused.ensures)
    (refuses k c.if-open-gt0.true)

pub accept-accepted-requires-clause-closed : goal.accept-accepted-requires-clause-closed
accept-accepted-requires-clause-closed c =
    let none : open_count c.args.decisions.now ≡ 0 = omega (arith, c.if-open-gt0.false, c.open_count-open.ensures.count) in
    made_closed c.args.spec c.args.made.now (c.requires.closed none)

pub returns : goal.returns
returns c =
    let p = c.args.spec in
    let fs = c.args.made.now in
    let ds = c.args.decisions.now in
    let k = c.open_count-open.result in
    let none : k ≡ 0 = omega (arith, c.if-open-gt0.false) in
    let zero_open : 0 ≡ open_count ds = omega (arith, none, c.open_count-open.ensures.count) in
    told p fs ds 0 c.push_accepted.new.out.items verdict.Ok zero_open
    (lines_are c.new-bytes.result.items c.print_interface.new.out.items c.push_decisions.new.out.items c.push_accepted.new.out.items (interface_line p) (all_lines p 1 (map formula_as fs) ds) (last_line (length fs) 0)
    c.new-bytes.ensures.items c.in_ok-print_interface.ensures.ok c.in_ok-push_decisions.ensures c.in_ok-push_accepted.ensures)
    (accepts 0 refl)
