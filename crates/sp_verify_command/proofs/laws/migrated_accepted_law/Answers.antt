use Rattle.sp_verify_command.proofs.Accepted.{migrated_accepted}
use Rattle.sp_verify_command.proofs.laws.migrated_accepted_law.Goals as goal

pub returns : goal.returns
returns c = migrated_accepted c.certified_law.ensures c.migrated_law.ensures
