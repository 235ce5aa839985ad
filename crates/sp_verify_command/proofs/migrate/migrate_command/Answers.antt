use Rattle.sp_frame.proofs.Connective.{prints_last}
use Rattle.sp_verify_command.specs.Migrate.{MigrateDone}
use Rattle.sp_verify_command.proofs.migrate.migrate_command.Goals as goal

pub returns : goal.returns
unfolding MigrateDone
returns g c = prints_last _ _ _ _ _ _ _ _ _ _ c.in_ok-texts.ensures c.migrate_work.ensures c.as_loading.ensures
