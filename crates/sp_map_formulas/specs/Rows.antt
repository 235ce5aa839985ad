-- The flow formulas of a mapping: what must hold so that the value of each row reads nothing above the level of the upper place.
use Rattle.std.specs.Prelude.{List, []}
use Rattle.std.specs.List.{flat_map}
use Rattle.sp_core.specs.declared.mapping.MapRow.{MapRow}
use Rattle.sp_core.specs.declared.mapping.Mapping.{Mapping}
use Rattle.sp_core.specs.Parts.{Parts}
use Rattle.sp_core.specs.Tree.{tree}
use Rattle.sp_sequent.specs.declared.formula.FormulaKind.TheVariants as is
use Rattle.sp_formulas.specs.Formulas.{About, Formula, Spot, reference_formulas}
use Rattle.sp_formulas.specs.References.{references}

-- what a row's formulas are about: the upper function, with the row's name and formals
abbrev pub about_row : MapRow → About
about_row r = record { kind = is.MappingReference; fun = r.upper; name = r.name; formals = r.formals }

-- where the references of a row's value stand: all variables are assumed proper, and what bounds them is the level of the
-- upper place, translated
abbrev pub row_spot : MapRow → Spot
row_spot r = record { about = about_row r; known = 0; bound = []; upper = tree r.level }

-- one formula for each reference of the row's value
abbrev pub row_formulas : Parts → MapRow → List Formula
row_formulas p r = reference_formulas p (row_spot r) [] (references (tree r.value))

-- the list of a mapping to a lower specification, row by row
abbrev pub map_formulas : Parts → Mapping → List Formula
map_formulas p m = flat_map (row_formulas p) m.functions
