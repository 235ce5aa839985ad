use Rattle.std.proofs.Common.{arith, subst, sym, take}
use Rattle.std.proofs.lemmas.Result.{err_from_is_err_and}
use Rattle.sp_hierarchy_rows.specs.Lowest.{AreDifferent}
use Rattle.sp_hierarchy_rows.proofs.Progress.{all_judged, different_more, next_judged, next_refused, taken}
use Rattle.sp_hierarchy_rows.proofs.rows.judge_each.Goals as goal

pub returns-in_err-judge_row : goal.returns-in_err-judge_row
returns-in_err-judge_row c =
    let p = err_from_is_err_and c.from_residual.result c.from_residual.ensures.1 in
    rw (p.1, p.2) (next_refused c.args.file.now c.args.rows.now c.loop-k.k c.index-rows-k.result (omega arith) c.index-rows-k.is c.loop-k.invariant.1 _ c.in_err-judge_row.ensures.does)

pub loop-k-preserved : goal.loop-k-preserved
loop-k-preserved c =
    let rows = c.args.rows.now in
    let k = c.loop-k.k in
    let row = c.index-rows-k.result in (
      subst AreDifferent (sym (taken rows k row (omega arith) c.index-rows-k.is)) (different_more (take k rows) row c.loop-k.invariant.0 c.in_ok-judge_row.ensures.single),
      next_judged c.args.file.now rows k row (omega arith) c.index-rows-k.is c.loop-k.invariant.1 c.in_ok-judge_row.ensures.does,
    )
