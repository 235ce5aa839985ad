use Rattle.sp_listing.proofs.Counts.{laid_entries}
use Rattle.sp_listing.proofs.laws.entries_law.Goals as goal

pub returns : goal.returns
returns c es s n apart h = laid_entries es s n apart h
