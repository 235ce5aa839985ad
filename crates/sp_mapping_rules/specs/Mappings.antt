-- What the text of a mapping breaks, as one list, and the mapping that it stands for.
use Rattle.std.specs.Prelude.{ℕ, List, ◌++◌, map}
use Rattle.sp_text.specs.declared.violation.Violation.{Violation}
use Rattle.sp_text.specs.Firsts.{behind}
use Rattle.sp_tree.specs.declared.interface.MappingTree.{MappingTree}
use Rattle.sp_core.specs.declared.expr.Expr.{Expr}
use Rattle.sp_core.specs.declared.mapping.MapRow.{MapRow}
use Rattle.sp_core.specs.declared.mapping.Mapping.{Mapping}
use Rattle.sp_core.specs.Parts.{Parts}
use Rattle.sp_scopes.specs.declared.scopes.Scopes.{Scopes}
use Rattle.sp_judge.specs.Visible.{Visible}
use Rattle.sp_mapping_rules.specs.Functions.{functions_broken, functions_missing, row_of}
use Rattle.sp_mapping_rules.specs.Lattices.{lattice_broken}
use Rattle.sp_mapping_rules.specs.Lower.{lower_view}
use Rattle.sp_mapping_rules.specs.Parameters.{param_cores, params_broken, params_missing}
use Rattle.sp_mapping_rules.specs.Types.{type_numbers, types_broken, types_missing}

-- which types, parameters and primitive V-functions lack a row, told at the mapping's name
abbrev pub all_missing : Parts → MappingTree → List Violation
all_missing u t =
    types_missing t.name.span t.types u.types
    ++ (params_missing t.name.span t.parameters u.params
    ++ functions_missing t.name.span t.functions u.functions)

-- The lattices, the rows of types, and what lacks a row. That two lattices differ is told at the mapping's name too.
abbrev pub front_broken : Parts → Parts → Visible → MappingTree → List Violation
front_broken u p s t = lattice_broken t.name.span u p ++ (types_broken u p s t.types ++ all_missing u t)

-- the lower types of the upper ones, and the expressions of the upper parameters
abbrev pub types_in : Parts → Visible → MappingTree → List ℕ
types_in u s t = type_numbers s t.types u.types

abbrev pub cores_in : Parts → Visible → MappingTree → List Expr
cores_in u s t = param_cores s (types_in u s t) t.parameters u.params

-- The rows of parameters, and then those of functions, whose levels are made by them. Each stands in a text behind what it is made of.
abbrev pub rows_broken : Parts → Visible → MappingTree → List Violation
rows_broken u s t =
    behind (params_broken u s (types_in u s t) t.parameters) (functions_broken u s (types_in u s t) (cores_in u s t) t.functions)

-- all that the text breaks, where s is what it sees of the lower specification
abbrev pub seen_broken : Parts → Parts → Visible → MappingTree → List Violation
seen_broken u p s t = behind (front_broken u p s t) (rows_broken u s t)

-- All that the text of a mapping from the upper to the lower specification breaks, with all names of the lower one.
abbrev pub mapping_broken : Parts → Parts → Scopes → MappingTree → List Violation
mapping_broken upper lower names t = seen_broken upper lower (lower_view lower names) t

abbrev pub rows_of : Parts → Visible → MappingTree → List MapRow
rows_of u s t = map (row_of u s (types_in u s t) (cores_in u s t)) t.functions

-- types in the order of the upper ones, rows in the order of the text
abbrev pub seen_mapping : Parts → Visible → MappingTree → Mapping
seen_mapping u s t = record { name = t.name.name; types = types_in u s t; functions = rows_of u s t }

-- the mapping that it stands for
abbrev pub mapping_of : Parts → Parts → Scopes → MappingTree → Mapping
mapping_of upper lower names t = seen_mapping upper (lower_view lower names) t
