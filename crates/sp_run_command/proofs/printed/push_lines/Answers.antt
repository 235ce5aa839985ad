use Rattle.std.proofs.Common.{◌≡◌, ◌∙◌, ◌++◌, ◌≤◌, List, [], ap, append-nil, arith, drop, length, sym}
use Rattle.sp_run_command.specs.Printed.{answer_lines}
use Rattle.sp_run_command.proofs.Lines.{all_dropped, no_lines}
use Rattle.sp_run_command.proofs.printed.push_lines.Goals as goal

pub returns : goal.returns
returns c =
    let p = c.args.spec.now in
    let i = c.args.instance.now in
    let k = c.loop-number.number in
    let js = drop k c.args.script.now in
    let none : drop k c.args.answers.now ≡ [] = all_dropped c.args.answers.now k (omega arith) in
    let lines : answer_lines p i k js (drop k c.args.answers.now) ≡ [] = ap (answer_lines p i k js) none ∙ no_lines p i k js in
    sym (append-nil c.loop-number.out.items) ∙ ap (λ xs. c.loop-number.out.items ++ xs) (sym lines) ∙ c.loop-number.invariant
