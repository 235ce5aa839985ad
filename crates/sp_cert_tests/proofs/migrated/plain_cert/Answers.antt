use Rattle.std.proofs.Common.{List, ap, ◌∙◌}
use Rattle.std.specs.Prelude.{slice_get}
use Rattle.sp_cert.specs.declared.cert.Cert.{Cert}
use Rattle.sp_cert_tests.proofs.Plain.{first_plain}
use Rattle.sp_cert_tests.proofs.migrated.plain_cert.Goals as goal

pub returns : goal.returns
returns c =
    first_plain c.first_format_is_plain.ensures c.args.file.now.format c.requires.first c.args.file.now.certs.items c.requires.file c.first.result
    (c.first.ensures.value ∙ ap (λ (l : List Cert). slice_get l 0) c.deref.ensures.value)
