use Rattle.std.proofs.Common.{◌≡◌, ◌∙◌, ◌++◌, ◌+◌, [], ap, append-nil, arith, drop, map, sym}
use Rattle.sp_formulas.specs.Formulas.{formula_as}
use Rattle.sp_verify_command.specs.Judged.{judgement_lines}
use Rattle.sp_verify_command.proofs.Progress.{all_dropped, no_judgements}
use Rattle.sp_verify_command.proofs.printed.push_judgements.Goals as goal

pub returns : goal.returns
returns c =
    let k = c.loop-k.k in
    let os = map formula_as (drop k c.args.formulas.now) in
    let none : drop k c.args.judgements.now ≡ [] = all_dropped c.args.judgements.now k (omega arith) in
    let lines : judgement_lines (k + 1) os (drop k c.args.judgements.now) ≡ [] = ap (judgement_lines (k + 1) os) none ∙ no_judgements (k + 1) os in
    sym (append-nil c.loop-k.out.items) ∙ ap (λ ys. c.loop-k.out.items ++ ys) (sym lines) ∙ c.loop-k.invariant
