use Rattle.std.proofs.Common.{◌∙◌, ap, take}
use Rattle.std.specs.List.{flat_map}
use Rattle.sp_text.specs.Violations.{first}
use Rattle.sp_naming.proofs.Gathering.{gather_next}
use Rattle.sp_scopes.specs.Headers.{header_broken, see_of}
use Rattle.sp_scopes.proofs.module.parameters_broken.Goals as goal

pub loop-head-preserved : goal.loop-head-preserved
loop-head-preserved c =
    let rule = (header_broken (see_of c.args.declared.now c.args.k c.args.names.now)) in
    let xs = c.args.parameters.now in
    let i = c.loop-head.head-index in
    let x = c.head-item.result in
    c.earlier-found.ensures (flat_map rule (take i xs)) (rule x) c.loop-head.invariant c.in_ok-header_broken.ensures ∙ ap first (gather_next rule xs i x c.loop-head-test.true c.head-item.is)
