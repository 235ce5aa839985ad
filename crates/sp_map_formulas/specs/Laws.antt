-- What is true of the list of a mapping's formulas.
use Rattle.sp_core.specs.declared.mapping.Mapping.{Mapping}
use Rattle.sp_core.specs.Mappings.{IsMappingTo}
use Rattle.sp_core.specs.Parts.{Parts}
use Rattle.sp_core.specs.WellFormed.{IsWellFormed}
use Rattle.sp_formulas.specs.Typed.{AreTypedFormulas}
use Rattle.sp_map_formulas.specs.Rows.{map_formulas}

-- the law: each formula of the list is typed over its variables
abbrev pub MapFormulasAreTyped : Type 0
MapFormulasAreTyped = (p : Parts) (m : Mapping) → IsWellFormed p → IsMappingTo p m → AreTypedFormulas p (map_formulas p m)
