use Rattle.std.proofs.Common.{◌∙◌, ap, take}
use Rattle.std.specs.List.{flat_map}
use Rattle.sp_text.specs.Violations.{first}
use Rattle.sp_naming.proofs.Gathering.{gather_next}
use Rattle.sp_scopes.specs.Headers.{see_of}
use Rattle.sp_scopes.specs.Modules.{definition_broken}
use Rattle.sp_scopes.proofs.module.definitions_broken.Goals as goal

pub loop-definition-preserved : goal.loop-definition-preserved
loop-definition-preserved c =
    let rule = (definition_broken (see_of c.args.declared.now c.args.k c.args.names.now)) in
    let xs = c.args.definitions.now in
    let i = c.loop-definition.definition-index in
    let x = c.definition-item.result in
    c.earlier-found.ensures (flat_map rule (take i xs)) (rule x) c.loop-definition.invariant c.in_ok-header_broken.ensures ∙ ap first (gather_next rule xs i x c.loop-definition-test.true c.definition-item.is)
