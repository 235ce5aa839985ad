use Rattle.std.proofs.Common.{take}
use Rattle.std.specs.List.{flat_map}
use Rattle.sp_mapping_rules.specs.Parameters.{param_row_broken}
use Rattle.sp_mapping_rows.proofs.Lists.{judged}
use Rattle.sp_mapping_rows.proofs.parameters.judge_each.Goals as goal

pub loop-row-preserved : goal.loop-row-preserved
loop-row-preserved c =
    let make = param_row_broken c.args.upper.now c.args.scope.now c.args.types.now in
    let xs = c.args.rows.now in
    let i = c.loop-row.row-index in
    let x = c.row-item.result in
    judged make xs i x c.earlier-found.result c.loop-row-test.true c.row-item.is (c.earlier-found.ensures (flat_map make (take i xs)) (make x) c.loop-row.invariant c.in_ok-here.ensures)
