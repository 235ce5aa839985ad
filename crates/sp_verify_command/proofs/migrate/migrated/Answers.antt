use Rattle.std.proofs.Common.{◌∙◌, List, ap, map}
use Rattle.sp_cert.specs.Tree.{file_of, tree}
use Rattle.sp_cert.specs.declared.cert.Cert.{Cert}
use Rattle.sp_formulas.specs.Formulas.{formula_as}
use Rattle.sp_frame.specs.declared.refusal.Verdict.TheVariants as verdict
use Rattle.sp_verify_command.specs.Judged.{extra_count}
use Rattle.sp_verify_command.proofs.Printing.{file_is, is_migrated}
use Rattle.sp_verify_command.proofs.migrate.migrated.Goals as goal

pub returns-then-accepts : goal.returns-then-accepts
returns-then-accepts c =
    let p = c.args.spec in
    let fs = c.args.made.now in
    let f = file_of c.args.file.now in
    let extra = c.extra_count.ensures ∙ ap (λ (cs : List Cert). extra_count (map formula_as fs) (map tree cs)) c.as_slice-certs.ensures.value in
    is_migrated p (map formula_as fs) f c.in_ok-bytes.bytes.items
    (file_is p fs f.trees c.args.all.now c.refused_count.result c.extra_count.result verdict.Ok c.requires.judged c.refused_count.ensures extra (c.accepts.ensures.accepted c.if-accepts.true))
    c.in_ok-bytes.ensures
