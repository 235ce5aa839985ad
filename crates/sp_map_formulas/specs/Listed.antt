-- What the call that lists a mapping's formulas answers.
use Rattle.std.specs.Prelude.{◌≡◌, List, map, None}
use Rattle.sp_core.specs.declared.mapping.Mapping.{Mapping}
use Rattle.sp_core.specs.Parts.{Parts}
use Rattle.sp_sequent.specs.declared.formula.Formula.{Formula as Made}
use Rattle.sp_formulas.specs.Formulas.{formula_as}
use Rattle.sp_formulas.specs.Limits.{first_fault}
use Rattle.sp_map_formulas.specs.Rows.{map_formulas}

-- these are the formulas of the mapping in order, and none of them exceeds a limit
pub record IsMapListed (p : Parts) (m : Mapping) (made : List Made) : Type 0 where
  pub all : map formula_as made ≡ map_formulas p m
  pub within : first_fault p 1 (map_formulas p m) ≡ None
