use Rattle.std.proofs.Common.{◌∙◌, arith}
use Rattle.sp_naming.specs.Declarations.{type_declaration}
use Rattle.sp_naming.proofs.Numbering.{pushed}
use Rattle.sp_naming.proofs.Gathering.{number_after}
use Rattle.sp_naming.proofs.listing.push_types.Goals as goal

pub loop-ty-preserved : goal.loop-ty-preserved
loop-ty-preserved c = record {
  listed = pushed (type_declaration c.args.file) c.args.first c.args.types.now c.loop-ty.ty-index c.ty-item.result c.args.all.now.items c.loop-ty.all.items c.push_type.new.all.items c.loop-ty.number
      (omega arith) c.loop-ty-test.true c.ty-item.is c.loop-ty.invariant.listed c.loop-ty.invariant.number c.in_ok-push_type.ensures;
  number = c.after-number.ensures ∙ number_after c.args.first c.loop-ty.ty-index c.loop-ty.number (omega arith) c.loop-ty.invariant.number;
}
