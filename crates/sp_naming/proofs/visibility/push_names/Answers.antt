use Rattle.sp_naming.specs.Visibility.{name_taken}
use Rattle.sp_naming.proofs.Gathering.{gathered}
use Rattle.sp_naming.proofs.visibility.push_names.Goals as goal

pub loop-name-preserved : goal.loop-name-preserved
loop-name-preserved c =
    gathered (name_taken c.args.declared.now c.args.file) c.args.names.now c.loop-name.name-index c.name-item.result c.args.all.now.items c.loop-name.all.items c.push_name.new.all.items
    c.loop-name-test.true c.name-item.is c.loop-name.invariant c.in_ok-push_name.ensures
