use Rattle.sp_map_formulas.proofs.TypedRows.{map_formulas_typed}
use Rattle.sp_map_formulas.proofs.laws.map_formulas_are_typed.Goals as goal

pub returns : goal.returns
returns c = λ p m well_formed mapping. map_formulas_typed p well_formed m mapping
