use Rattle.std.proofs.Common.{◌∙◌, arith}
use Rattle.sp_naming.specs.Declarations.{function_declaration}
use Rattle.sp_naming.proofs.Numbering.{pushed}
use Rattle.sp_naming.proofs.Gathering.{number_after}
use Rattle.sp_naming.proofs.listing.push_functions.Goals as goal

pub loop-function-preserved : goal.loop-function-preserved
loop-function-preserved c = record {
  listed = pushed (function_declaration c.args.file) c.args.first c.args.functions.now c.loop-function.function-index c.function-item.result c.args.all.now.items c.loop-function.all.items c.push_declaration.new.all.items c.loop-function.number
      (omega arith) c.loop-function-test.true c.function-item.is c.loop-function.invariant.listed c.loop-function.invariant.number c.in_ok-push_declaration.ensures;
  number = c.after-number.ensures ∙ number_after c.args.first c.loop-function.function-index c.loop-function.number (omega arith) c.loop-function.invariant.number;
}
