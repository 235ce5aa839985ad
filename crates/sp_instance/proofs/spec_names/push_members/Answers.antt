use Rattle.sp_core.specs.WellFormed.{members_of}
use Rattle.sp_naming.proofs.Gathering.{gathered}
use Rattle.sp_instance.proofs.spec_names.push_members.Goals as goal

pub loop-info-preserved : goal.loop-info-preserved
loop-info-preserved c =
    gathered members_of c.args.types.now c.loop-info.info-index c.info-item.result c.args.names.now.items c.loop-info.names.items c.push_members_of.new.names.items
    c.loop-info-test.true c.info-item.is c.loop-info.invariant c.in_ok-push_members_of.ensures
