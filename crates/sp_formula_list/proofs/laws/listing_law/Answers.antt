use Rattle.sp_formula_list.proofs.Lawful.{listing_lawful}
use Rattle.sp_formula_list.proofs.laws.listing_law.Goals as goal

pub returns : goal.returns
returns c = λ files owner os o. listing_lawful files owner os o
