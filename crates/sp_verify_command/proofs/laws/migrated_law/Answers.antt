use Rattle.sp_verify_command.proofs.Accepted.{migrated_certified}
use Rattle.sp_verify_command.proofs.laws.migrated_law.Goals as goal

pub returns : goal.returns
returns c = migrated_certified c.first_format_is_plain.ensures c.lifted_checks.ensures c.lifted_is_spelled.ensures
