-- What the tree of an instance's text breaks, as one list, and the instance that it stands for.
use Rattle.std.specs.Prelude.{ℕ, List, ◌++◌, map}
use Rattle.std.specs.List.{flat_map}
use Rattle.sp_text.specs.declared.violation.Violation.{Violation}
use Rattle.sp_text.specs.Firsts.{behind}
use Rattle.sp_tree.specs.declared.instance.InstanceTree.{InstanceTree}
use Rattle.sp_tree.specs.declared.names.Ident.{Ident}
use Rattle.sp_core.specs.declared.function.Param.{Param}
use Rattle.sp_core.specs.Instances.{InstanceParts}
use Rattle.sp_core.specs.Parts.{Parts}
use Rattle.sp_core.specs.WellFormed.{names_of}
use Rattle.sp_instance.specs.Words.{Words, designator_names, words_of}
use Rattle.sp_instance.specs.Heads.{heads_broken, names_in}
use Rattle.sp_instance.specs.Populations.{members_of_types, population_head, types_broken}
use Rattle.sp_instance.specs.Tables.{missing, param_broken, param_table, table_head}

abbrev pub param_name : Param → List ℕ
param_name q = q.name

abbrev pub population_heads : InstanceTree → List Ident
population_heads t = map population_head t.populations

abbrev pub table_heads : InstanceTree → List Ident
table_heads t = map table_head t.tables

-- the members that the types of the specification have by the text
abbrev pub members_in : Parts → InstanceTree → List (List (List ℕ))
members_in p t = members_of_types t.populations p.types

abbrev pub words_in : Parts → InstanceTree → Words
words_in p t = words_of p (members_in p t)

-- the names of populations are those of designator types
abbrev pub populations_named : Parts → InstanceTree → List Violation
populations_named p t = heads_broken (designator_names p.types) (names_of p) (population_heads t)

-- the names of tables are those of parameters
abbrev pub tables_named : Parts → InstanceTree → List Violation
tables_named p t = heads_broken (map param_name p.params) (names_of p) (table_heads t)

-- the populations; and which types and parameters lack a population or a table, which is told at the instance's name
abbrev pub front_broken : Parts → InstanceTree → List Violation
front_broken p t =
    populations_named p t
    ++ types_broken t.name.span t.populations p.types
    ++ flat_map (missing t.name.span (names_in (table_heads t))) p.params

-- the tables
abbrev pub tables_broken : Parts → InstanceTree → List Violation
tables_broken p t = tables_named p t ++ flat_map (param_broken (words_in p t) t.tables) p.params

-- All that the text breaks. The values of tables are judged by the populations, so only where these break nothing; in a text the
-- populations stand before the tables.
abbrev pub instance_broken : Parts → InstanceTree → List Violation
instance_broken p t = behind (front_broken p t) (tables_broken p t)

-- the instance: the members of each type, and the table of each parameter
abbrev pub instance_of : Parts → InstanceTree → InstanceParts
instance_of p t = record { members = members_in p t; tables = map (param_table (words_in p t) t.tables) p.params }
