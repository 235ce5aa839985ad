use Rattle.sp_map_formulas.proofs.TypedRows.{map_formulas_typed}
use Rattle.sp_map_formulas.proofs.laws.tell_map_typed.Goals as goal

pub returns : goal.returns
returns c = map_formulas_typed c.args.lower.now c.functions.ensures.well_formed c.args.m.now c.requires
