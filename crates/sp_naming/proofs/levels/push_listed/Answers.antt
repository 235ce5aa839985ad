use Rattle.std.proofs.Common.{◌∙◌, ap, [], ◌∷◌, ◌++◌, arith}
use Rattle.sp_tree.specs.declared.names.Ident.{Ident}
use Rattle.sp_naming.specs.Levels.{level}
use Rattle.sp_naming.proofs.Numbering.{pushed}
use Rattle.sp_naming.proofs.Gathering.{number_after}
use Rattle.sp_naming.proofs.levels.push_listed.Goals as goal

pub loop-name-preserved : goal.loop-name-preserved
loop-name-preserved c = record {
  listed = pushed (λ k (x : Ident). level x x.name k ∷ []) 0 c.args.names.now c.loop-name.name-index c.name-item.result c.args.all.now.items c.loop-name.all.items c.push_level.new.all.items c.loop-name.number
      (omega arith) c.loop-name-test.true c.name-item.is c.loop-name.invariant.listed c.loop-name.invariant.number
      (c.in_ok-push_level.ensures ∙ ap (λ z. c.loop-name.all.items ++ level c.name-item.result z c.loop-name.number ∷ []) c.bytes.ensures);
  number = c.after-number.ensures ∙ number_after 0 c.loop-name.name-index c.loop-name.number (omega arith) c.loop-name.invariant.number;
}
