use Rattle.std.proofs.Common.{◌∙◌, arith}
use Rattle.sp_naming.specs.Declarations.{member}
use Rattle.sp_naming.proofs.Numbering.{pushed}
use Rattle.sp_naming.proofs.Gathering.{number_after}
use Rattle.sp_naming.proofs.listing.push_members.Goals as goal

pub loop-name-preserved : goal.loop-name-preserved
loop-name-preserved c = record {
  listed = pushed (member c.args.file c.args.ty c.args.owner.now) 0 c.args.names.now c.loop-name.name-index c.name-item.result c.args.all.now.items c.loop-name.all.items c.push_member.new.all.items c.loop-name.number
      (omega arith) c.loop-name-test.true c.name-item.is c.loop-name.invariant.listed c.loop-name.invariant.number c.in_ok-push_member.ensures;
  number = c.after-number.ensures ∙ number_after 0 c.loop-name.name-index c.loop-name.number (omega arith) c.loop-name.invariant.number;
}
