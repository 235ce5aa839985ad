use Rattle.std.proofs.Common.{subst}
use Rattle.sp_cert.specs.Tree.{File}
use Rattle.sp_frame.specs.Endings.{Printing}
use Rattle.sp_frame.specs.Steps.{Does}
use Rattle.sp_frame.specs.Uncertified.{spells}
use Rattle.sp_frame.proofs.Connective.{prints_after}
use Rattle.sp_verify_command.specs.Migrate.{MigrateAnswered}
use Rattle.sp_verify_command.proofs.migrate.migrate_work.Goals as goal

pub returns : goal.returns
returns c =
    prints_after _ _ _ c.in_ok-elaborated.elaborated _ c.in_ok-elaborated.ensures
    (subst (λ (f : File). Does (Printing spells (MigrateAnswered c.in_ok-elaborated.elaborated.spec f)) c.answered.result) c.file.ensures.file c.answered.ensures)
