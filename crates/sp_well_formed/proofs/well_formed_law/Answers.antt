use Rattle.sp_well_formed.proofs.Whole.{formed}
use Rattle.sp_well_formed.proofs.well_formed_law.Goals as goal

pub returns : goal.returns
returns c = λ i ms bottom top p none levels ends ordered numbers rest meant.
    formed c.found_are_lent.ensures i ms bottom top p none levels ends numbers.definitions rest meant c.lent_are_found.ensures ordered numbers
