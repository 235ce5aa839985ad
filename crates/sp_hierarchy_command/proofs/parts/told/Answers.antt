use Rattle.std.proofs.Common.{◌≡◌, arith, length, map, refl}
use Rattle.sp_formulas.specs.Formulas.{formula_as}
use Rattle.sp_frame.specs.declared.refusal.Verdict.TheVariants as verdict
use Rattle.sp_deciding.specs.Decided.{open_count}
use Rattle.sp_deciding.specs.Verdicts.{all_lines, last_line}
use Rattle.sp_hierarchy_command.proofs.Printing.{lines_are, refuses, told}
use Rattle.sp_hierarchy_command.proofs.parts.told.Goals as goal

pub returns-then-open-gt0 : goal.returns-then-open-gt0
returns-then-open-gt0 c =
    let p = c.args.spec.now in
    let fs = c.args.made.now in
    let ds = c.args.decisions.now in
    let k = c.open_count-open.result in
    told c.args.line.items p fs ds k c.push_refused.new.out.items verdict.Refused c.open_count-open.ensures.count
    (lines_are c.args.line.items c.push_decisions.new.out.items c.push_refused.new.out.items (all_lines p 1 (map formula_as fs) ds) (last_line (length fs) k) c.in_ok-push_decisions.ensures c.in_ok-push_refused.ensures)
    (refuses k c.if-open-gt0.true)

pub returns : goal.returns
returns c =
    let p = c.args.spec.now in
    let fs = c.args.made.now in
    let ds = c.args.decisions.now in
    let k = c.open_count-open.result in
    let none : k ≡ 0 = omega (arith, c.if-open-gt0.false) in
    let zero_open : 0 ≡ open_count ds = omega (arith, none, c.open_count-open.ensures.count) in
    told c.args.line.items p fs ds 0 c.push_proved.new.out.items verdict.Ok zero_open
    (lines_are c.args.line.items c.push_decisions.new.out.items c.push_proved.new.out.items (all_lines p 1 (map formula_as fs) ds) (last_line (length fs) 0) c.in_ok-push_decisions.ensures c.in_ok-push_proved.ensures)
    refl
