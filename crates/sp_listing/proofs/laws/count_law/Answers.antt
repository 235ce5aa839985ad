use Rattle.sp_listing.proofs.OneCount.{one_count}
use Rattle.sp_listing.proofs.laws.count_law.Goals as goal

pub returns : goal.returns
returns c s n k h j = one_count s n k h j
