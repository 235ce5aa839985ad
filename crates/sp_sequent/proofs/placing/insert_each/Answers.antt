use Rattle.std.proofs.Common.{◌∷◌, [], ap, ◌∙◌, map, take}
use Rattle.std.proofs.lemmas.Result.{err_from_is_err_and}
use Rattle.std.proofs.lemmas.List.{map-append}
use Rattle.sp_core.specs.Tree.{tree}
use Rattle.sp_sequent.proofs.Inserting.{listed_full, reached_more, reached_same, take_trees}
use Rattle.sp_sequent.proofs.placing.insert_each.Goals as goal

pub returns-in_err-number-clause-full : goal.returns-in_err-number-clause-full
returns-in_err-number-clause-full c =
    let p = err_from_is_err_and c.from_residual.result c.from_residual.ensures.1 in
    rw (p.1, p.2) (listed_full _ (map (λ r. tree r.now) c.loop-e.terms.items) c.args.exprs.now c.e-item.result c.loop-e.e-index c.loop-e.pool (map (λ t. t.0) c.loop-e.numbers.items) _ c.loop-e.invariant c.loop-e-test.true c.e-item.is c.in_err-number.ensures.full)

pub loop-e-preserved : goal.loop-e-preserved
loop-e-preserved c =
    let more = reached_more (map (λ r. tree r.now) c.args.terms.now.items) (map (λ r. tree r.now) c.loop-e.terms.items) c.loop-e.pool (map (λ t. t.0) c.loop-e.numbers.items) (map tree (take c.loop-e.e-index c.args.exprs.now)) (tree c.e-item.result) c.insert.new.pool (map (λ r. tree r.now) c.insert.new.terms.items) c.in_ok-number.number.0 c.loop-e.invariant c.in_ok-number.ensures.ok in
    reached_same (map (λ r. tree r.now) c.args.terms.now.items) (map (λ r. tree r.now) c.insert.new.terms.items) c.insert.new.pool _ _ _ _
    (ap (map (λ t. t.0)) c.in_ok-list.ensures.ok ∙ map-append (λ t. t.0) c.loop-e.numbers.items (c.in_ok-number.number ∷ []))
    (take_trees c.args.exprs.now c.loop-e.e-index c.e-item.result c.loop-e-test.true c.e-item.is) more
