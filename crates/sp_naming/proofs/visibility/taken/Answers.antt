use Rattle.std.proofs.Common.{[]}
use Rattle.sp_naming.specs.Visibility.{row_taken}
use Rattle.sp_naming.proofs.Gathering.{gathered}
use Rattle.sp_naming.proofs.visibility.taken.Goals as goal

pub loop-row-preserved : goal.loop-row-preserved
loop-row-preserved c =
    gathered (row_taken c.args.declared.now c.args.modules.now) c.args.externals.now c.loop-row.row-index c.row-item.result [] c.loop-row.all.items c.push_row.new.all.items
    c.loop-row-test.true c.row-item.is c.loop-row.invariant c.in_ok-push_row.ensures
