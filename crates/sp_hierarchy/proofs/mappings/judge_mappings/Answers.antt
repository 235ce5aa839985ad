use Rattle.std.proofs.Common.{◌+◌, arith, drop, subst, sym}
use Rattle.std.specs.List.{All}
use Rattle.std.proofs.lemmas.List.Elements.{All-push}
use Rattle.std.proofs.lemmas.Result.{err_from_is_err_and}
use Rattle.sp_frame.proofs.Lists.{First, all_done, next_done, next_stops}
use Rattle.sp_hierarchy.specs.Judged.{IsMappedTo, MappingJudged}
use Rattle.sp_hierarchy.proofs.mappings.judge_mappings.Goals as goal

pub returns-in_err-mapped-clause-does : goal.returns-in_err-mapped-clause-does
returns-in_err-mapped-clause-does c =
    let p = err_from_is_err_and c.from_residual.result c.from_residual.ensures.1 in
    rw (p.1, p.2) (next_stops (MappingJudged c.args.members.now) _ c.loop-row.row-index _ c.row-item.result _ (omega arith) c.row-item.is c.loop-row.invariant.0 c.in_err-mapped.ensures.does)

pub loop-row-preserved : goal.loop-row-preserved
loop-row-preserved c =
    let ms = c.args.members.now in
    let rows = c.args.rows.now in (
      subst (First (MappingJudged ms) rows (drop (c.loop-row.row-index + 1) rows)) (sym c.in_ok-push.ensures.items)
          (next_done (MappingJudged ms) _ c.loop-row.row-index _ c.row-item.result _ (omega arith) c.row-item.is c.loop-row.invariant.0 c.in_ok-mapped.ensures.does),
      subst (All (IsMappedTo ms)) (sym c.in_ok-push.ensures.items)
          (All-push (IsMappedTo ms) c.loop-row.mappings.items c.in_ok-mapped.mapped c.loop-row.invariant.1 c.in_ok-mapped.ensures.mapped),
    )

pub returns-clause-does : goal.returns-clause-does
returns-clause-does c = rw c.new.ensures (all_done (MappingJudged c.args.members.now) _ c.loop-row.row-index _ (omega arith) c.loop-row.invariant.0)

pub returns-clause-mapped : goal.returns-clause-mapped
returns-clause-mapped c = rw c.new.ensures c.loop-row.invariant.1
