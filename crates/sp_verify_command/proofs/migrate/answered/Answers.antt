use Rattle.sp_cert.specs.Tree.{file_of}
use Rattle.sp_verify_command.specs.Migrate.{migrate_answer}
use Rattle.sp_verify_command.proofs.Printing.{answered}
use Rattle.sp_verify_command.proofs.migrate.answered.Goals as goal

pub returns : goal.returns
returns c =
    answered c.args.spec (λ os. migrate_answer c.args.spec os (file_of c.args.file.now)) c.in_ok-formulas.formulas c.items-2.result.now c.migrated.result c.items-2.ensures c.in_ok-formulas.ensures.does c.migrated.ensures
