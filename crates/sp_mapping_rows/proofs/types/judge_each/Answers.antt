use Rattle.std.proofs.Common.{take}
use Rattle.std.specs.List.{flat_map}
use Rattle.sp_mapping_rules.specs.Types.{type_row_broken}
use Rattle.sp_mapping_rows.proofs.Lists.{judged}
use Rattle.sp_mapping_rows.proofs.types.judge_each.Goals as goal

pub loop-row-preserved : goal.loop-row-preserved
loop-row-preserved c =
    let make = type_row_broken c.args.upper.now c.args.lower.now c.args.scope.now in
    let xs = c.args.rows.now in
    let i = c.loop-row.row-index in
    let x = c.row-item.result in
    judged make xs i x c.earlier-found.result c.loop-row-test.true c.row-item.is (c.earlier-found.ensures (flat_map make (take i xs)) (make x) c.loop-row.invariant c.judge_row.ensures)
