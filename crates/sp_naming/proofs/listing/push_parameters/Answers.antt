use Rattle.std.proofs.Common.{◌∙◌, arith}
use Rattle.sp_naming.specs.Declarations.{param_declaration}
use Rattle.sp_naming.proofs.Numbering.{pushed}
use Rattle.sp_naming.proofs.Gathering.{number_after}
use Rattle.sp_naming.proofs.listing.push_parameters.Goals as goal

pub loop-head-preserved : goal.loop-head-preserved
loop-head-preserved c = record {
  listed = pushed (param_declaration c.args.file) c.args.first c.args.parameters.now c.loop-head.head-index c.head-item.result c.args.all.now.items c.loop-head.all.items c.push_declaration.new.all.items c.loop-head.number
      (omega arith) c.loop-head-test.true c.head-item.is c.loop-head.invariant.listed c.loop-head.invariant.number c.in_ok-push_declaration.ensures;
  number = c.after-number.ensures ∙ number_after c.args.first c.loop-head.head-index c.loop-head.number (omega arith) c.loop-head.invariant.number;
}
