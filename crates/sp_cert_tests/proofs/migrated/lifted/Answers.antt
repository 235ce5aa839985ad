use Rattle.sp_cert_tests.proofs.migrated.lifted.Goals as goal

pub written-requires : goal.written-requires
written-requires c = c.in-Ok.ensures.spelled 64 c.in-Some.ensures.1
