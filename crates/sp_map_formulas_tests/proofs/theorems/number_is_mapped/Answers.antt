use Rattle.sp_map_formulas_tests.proofs.NumberLemmas.{number_mapped, number_well_formed}
use Rattle.sp_map_formulas_tests.proofs.theorems.number_is_mapped.Goals as goal

pub returns : goal.returns
returns c = λ o lattice two. (number_well_formed o two lattice, number_mapped o two)
