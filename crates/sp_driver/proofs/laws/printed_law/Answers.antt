use Rattle.sp_driver.proofs.Printed.{printed_accepted}
use Rattle.sp_driver.proofs.laws.printed_law.Goals as goal

pub returns : goal.returns
returns c = printed_accepted c.certified_law.ensures c.checked_law.ensures c.certified_law-2.ensures c.migrated_law.ensures
