use Rattle.sp_instance.specs.Words.{designator_name}
use Rattle.sp_naming.proofs.Gathering.{gathered}
use Rattle.sp_instance.proofs.spec_names.push_designators.Goals as goal

pub loop-info-preserved : goal.loop-info-preserved
loop-info-preserved c =
    gathered designator_name c.args.types.now c.loop-info.info-index c.info-item.result c.args.names.now.items c.loop-info.names.items c.push_designator.new.names.items
    c.loop-info-test.true c.info-item.is c.loop-info.invariant c.in_ok-push_designator.ensures
