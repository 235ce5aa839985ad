use Rattle.sp_listing.proofs.Changed.{clashes}
use Rattle.sp_listing.proofs.laws.clash_law.Goals as goal

pub returns : goal.returns
returns c m s u i as' es of p x y h = clashes m s u i as' es of p x y h
