use Rattle.std.proofs.Common.{◌∙◌, List, ap, map, subst, sym}
use Rattle.std.specs.List.{All}
use Rattle.sp_cert.specs.Tree.{file_of, tree, trees}
use Rattle.sp_cert.specs.declared.cert.Cert.{Cert}
use Rattle.sp_checker.specs.Migration.{IsPlain}
use Rattle.sp_formulas.specs.Formulas.{formula_as}
use Rattle.sp_verify_command.specs.Migrate.{lifted_trees}
use Rattle.sp_verify_command.proofs.Certified.{certified}
use Rattle.sp_verify_command.proofs.Migrated.{first_format, lifted_good}
use Rattle.sp_verify_command.proofs.migrate.rewritten.Goals as goal

pub lift_all-requires-clause-plain : goal.lift_all-requires-clause-plain
lift_all-requires-clause-plain c =
    let p = c.args.spec.now in
    let os = map formula_as c.args.made.now in
    let f = file_of c.args.file.now in
    subst (λ (cs : List Cert). All IsPlain (map tree cs)) (sym c.as_slice.ensures.value) (c.first_format_is_plain.ensures 64 f c.requires.spelled (first_format p os f c.requires.spelled c.if-file-eq2.false))

pub write_cert-requires-2 : goal.write_cert-requires-2
write_cert-requires-2 c =
    let p = c.args.spec.now in
    let os = map formula_as c.args.made.now in
    let f = file_of c.args.file.now in
    lifted_good p os f c.requires.spelled c.lifted_is_spelled.ensures (certified p os f.trees c.requires.accepted) (trees c.in_ok-certs.certs)
    (c.in_ok-certs.ensures ∙ ap (λ (cs : List Cert). lifted_trees p os (map tree cs)) c.as_slice.ensures.value) (first_format p os f c.requires.spelled c.if-file-eq2.false)
