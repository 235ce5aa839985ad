use Rattle.std.proofs.Common.{map}
use Rattle.std.proofs.lemmas.Result.{err_from_is_err_and}
use Rattle.sp_core.specs.Tree.{tree}
use Rattle.sp_sequent.proofs.Inserting.{all_fit, front_refused, goal_refused}
use Rattle.sp_sequent.proofs.placing.place_all.Goals as goal

pub returns-in_err-insert_each-clause-full : goal.returns-in_err-insert_each-clause-full
returns-in_err-insert_each-clause-full c =
    let p = err_from_is_err_and c.from_residual.result c.from_residual.ensures.1 in
    rw (p.1, p.2) (front_refused (map (λ r. tree r.now) c.args.terms.now.items) c.requires.truths (map tree c.args.hyps.now) (tree c.args.goal.now) _ c.in_err-insert_each.ensures.full)

pub returns-in_err-insert-clause-full : goal.returns-in_err-insert-clause-full
returns-in_err-insert-clause-full c =
    let p = err_from_is_err_and c.from_residual-in_err-insert.result c.from_residual-in_err-insert.ensures.1 in
    rw (p.1, p.2) (goal_refused (map (λ r. tree r.now) c.args.terms.now.items) c.requires.truths (map tree c.args.hyps.now) (tree c.args.goal.now) (map (λ r. tree r.now) c.insert_each.new.terms.items) _ c.in_ok-insert_each.ensures.ok.grown c.in_err-insert.ensures.full)

pub returns-clause-ok : goal.returns-clause-ok
returns-clause-ok c =
    all_fit (map (λ r. tree r.now) c.args.terms.now.items) c.requires.truths (map tree c.args.hyps.now) (tree c.args.goal.now) (map (λ r. tree r.now) c.insert_each.new.terms.items) (map (λ r. tree r.now) c.insert.new.terms.items) c.insert.new.pool
    c.in_ok-insert_each.ensures.ok.grown c.in_ok-insert.ensures.ok.grown c.in_ok-insert.ensures.ok.numbers c.len.ensures.pool
