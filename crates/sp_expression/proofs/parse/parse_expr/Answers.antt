use Rattle.std.proofs.Common.{◌≡◌, false, true, sym, ◌∙◌, arith}
use Rattle.std.proofs.lemmas.Result.{err_from_is_err_and}
use Rattle.sp_expression.proofs.Front.{refused, refused_high, refused_off, answered, only_fault, only_tree}
use Rattle.sp_expression.proofs.parse.parse_expr.Goals as goal

pub returns-then-begins_expr-clause-answers : goal.returns-then-begins_expr-clause-answers
returns-then-begins_expr-clause-answers c =
    let ts = c.args.tokens.now in
    let e : c.args.budget ≡ 0 = (let q = c.if-budget-lt1.true in omega arith) in
    rw c.too_high.ensures (rw e (refused_high ts c.args.end c.args.at (sym c.if-begins_expr.ensures)))

pub returns-then-budget-lt1-clause-answers : goal.returns-then-budget-lt1-clause-answers
returns-then-budget-lt1-clause-answers c =
    let ts = c.args.tokens.now in
    let e : c.args.budget ≡ 0 = (let q = c.if-budget-lt1.true in omega arith) in
    rw c.unexpected.ensures (rw e (refused_off ts c.args.end c.args.at (λ h. let x : false ≡ true = c.if-begins_expr.ensures ∙ h in cc)))

pub returns-in_err-found-clause-answers : goal.returns-in_err-found-clause-answers
returns-in_err-found-clause-answers c =
    let p = err_from_is_err_and c.from_residual.result c.from_residual.ensures.1 in
    rw (p.1, p.2) (refused c.args.tokens.now c.args.budget c.args.end c.args.at _ c.in_err-found.ensures.reads)

pub returns-in_err-found-clause-only : goal.returns-in_err-found-clause-only
returns-in_err-found-clause-only c =
    let p = err_from_is_err_and c.from_residual.result c.from_residual.ensures.1 in
    rw (p.1, p.2) (only_fault c.args.tokens.now c.args.budget c.args.end c.args.at _ (refused c.args.tokens.now c.args.budget c.args.end c.args.at _ c.in_err-found.ensures.reads))

pub returns-clause-answers : goal.returns-clause-answers
returns-clause-answers c =
    let x = c.in_ok-found.found in
    answered c.args.tokens.now c.args.budget x.height c.args.at x.next x.tree c.in_ok-found.ensures.reads

pub returns-clause-only : goal.returns-clause-only
returns-clause-only c =
    let x = c.in_ok-found.found in
    only_tree c.args.tokens.now c.args.budget c.args.at x.next x.tree (answered c.args.tokens.now c.args.budget x.height c.args.at x.next x.tree c.in_ok-found.ensures.reads)
