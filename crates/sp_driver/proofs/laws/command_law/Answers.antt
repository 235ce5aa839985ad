use Rattle.sp_driver.proofs.Commands.{lawful}
use Rattle.sp_driver.proofs.laws.command_law.Goals as goal

pub returns : goal.returns
returns c = λ files command.
    lawful files (c.check_law.ensures files) (c.formulas_law.ensures files) (c.prove_law.ensures files) (c.verify_law.ensures files) (c.migrate_law.ensures files) (c.run_law.ensures files)
    (c.compare_law.ensures files) (c.hierarchy_law.ensures files) (c.sample_law.ensures files) command
