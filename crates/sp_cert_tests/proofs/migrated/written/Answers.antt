use Rattle.std.proofs.Common.{List, [], ◌∷◌, ◌++◌, ap, ◌∙◌}
use Rattle.sp_cert.specs.declared.cert.Cert.{Cert}
use Rattle.sp_cert_tests.proofs.Plain.{one_file}
use Rattle.sp_cert_tests.proofs.migrated.written.Goals as goal

pub write_cert-requires : goal.write_cert-requires
write_cert-requires c = one_file c.push.new.self.items c.args.cert (c.in_ok-push.ensures.items ∙ ap (λ (l : List Cert). l ++ c.args.cert ∷ []) c.new-certs.ensures.items) c.requires
