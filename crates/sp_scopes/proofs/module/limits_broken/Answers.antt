use Rattle.std.proofs.Common.{◌∙◌, ap, take}
use Rattle.std.specs.List.{flat_map}
use Rattle.sp_text.specs.Violations.{first_in_files}
use Rattle.sp_naming.proofs.Gathering.{gather_next}
use Rattle.sp_scopes.specs.Modules.{limit_broken, over}
use Rattle.sp_scopes.proofs.module.limits_broken.Goals as goal

pub loop-d-preserved : goal.loop-d-preserved
loop-d-preserved c =
    let rule = limit_broken in
    let xs = c.args.all.now in
    let i = c.loop-d.d-index in
    let x = c.d-item.result in
    c.earlier_in_files-found.ensures (flat_map rule (take i xs)) (rule x) c.loop-d.invariant (c.in_file.ensures (over c.d-item.result.span c.d-item.result.entity) c.over.ensures) ∙ ap first_in_files (gather_next rule xs i x c.loop-d-test.true c.d-item.is)
