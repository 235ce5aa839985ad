use Rattle.std.proofs.Common.{◌∙◌, ap, take}
use Rattle.std.specs.List.{flat_map}
use Rattle.sp_text.specs.Violations.{first}
use Rattle.sp_naming.proofs.Gathering.{gather_next}
use Rattle.sp_scopes.specs.Modules.{row_broken}
use Rattle.sp_scopes.proofs.module.externals_broken.Goals as goal

pub loop-row-preserved : goal.loop-row-preserved
loop-row-preserved c =
    let rule = (row_broken c.args.declared.now c.args.modules.now) in
    let xs = c.args.externals.now in
    let i = c.loop-row.row-index in
    let x = c.row-item.result in
    c.earlier-found.ensures (flat_map rule (take i xs)) (rule x) c.loop-row.invariant c.row_broken.ensures ∙ ap first (gather_next rule xs i x c.loop-row-test.true c.row-item.is)
