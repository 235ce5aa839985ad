use Rattle.std.proofs.Common.{◌∙◌, arith}
use Rattle.sp_naming.specs.Declarations.{definition_declaration}
use Rattle.sp_naming.proofs.Numbering.{pushed}
use Rattle.sp_naming.proofs.Gathering.{number_after}
use Rattle.sp_naming.proofs.listing.push_definitions.Goals as goal

pub loop-definition-preserved : goal.loop-definition-preserved
loop-definition-preserved c = record {
  listed = pushed (definition_declaration c.args.file) c.args.first c.args.definitions.now c.loop-definition.definition-index c.definition-item.result c.args.all.now.items c.loop-definition.all.items c.push_declaration.new.all.items c.loop-definition.number
      (omega arith) c.loop-definition-test.true c.definition-item.is c.loop-definition.invariant.listed c.loop-definition.invariant.number c.in_ok-push_declaration.ensures;
  number = c.after-number.ensures ∙ number_after c.args.first c.loop-definition.definition-index c.loop-definition.number (omega arith) c.loop-definition.invariant.number;
}
