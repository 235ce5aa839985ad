use Rattle.std.proofs.Common.{◌∙◌, ap, take}
use Rattle.std.specs.List.{flat_map}
use Rattle.sp_text.specs.Violations.{first}
use Rattle.sp_naming.proofs.Gathering.{gather_next}
use Rattle.sp_scopes.specs.Headers.{formal_type, see_of}
use Rattle.sp_scopes.proofs.headers.types_rule.Goals as goal

pub loop-formal-preserved : goal.loop-formal-preserved
loop-formal-preserved c =
    let rule = (formal_type (see_of c.args.declared.now c.args.k c.args.names.now)) in
    let xs = c.args.formals.now in
    let i = c.loop-formal.formal-index in
    let x = c.formal-item.result in
    c.earlier-found.ensures (flat_map rule (take i xs)) (rule x) c.loop-formal.invariant c.type_rule.ensures ∙ ap first (gather_next rule xs i x c.loop-formal-test.true c.formal-item.is)
