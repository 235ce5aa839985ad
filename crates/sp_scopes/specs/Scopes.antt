-- What is known of all names, where an interface and its modules break nothing by them.
use Rattle.std.specs.Prelude.{ℕ, List, map, Option}
use Rattle.std.specs.Option.{option_map}
use Rattle.sp_tree.specs.declared.interface.InterfaceTree.{InterfaceTree}
use Rattle.sp_tree.specs.declared.module.Module.{Module}
use Rattle.sp_tree.specs.declared.names.Ident.{Ident}
use Rattle.sp_naming.specs.declared.declaration.Declaration.{Declaration}
use Rattle.sp_naming.specs.declared.declaration.Entity.{Entity}
use Rattle.sp_naming.specs.Declarations.{declarations}
use Rattle.sp_naming.specs.Visibility.{find_in, taken}
use Rattle.sp_scopes.specs.declared.scopes.Scopes.{Scopes}
use Rattle.sp_scopes.specs.Lent.{all_definitions, all_functions, all_parameters, all_types, level_names, level_order}

abbrev pub module_takes : List Declaration → List Ident → Module → List (List ℕ)
module_takes ds modules m = taken ds modules m.externals

-- the same by the list of the declarations
abbrev pub scopes_by : List Declaration → InterfaceTree → List Module → Scopes
scopes_by ds i ms = record {
  declared = ds;
  takes = map (module_takes ds i.modules) ms;
  types = all_types ms;
  parameters = all_parameters ds i.modules ms;
  definitions = all_definitions ds i.modules ms;
  functions = all_functions ds i.modules ms;
  levels = level_names ds;
  order = level_order ds i.lattice;
}

-- all that is declared, what each module takes from others, and what is lent of it
abbrev pub scopes_of : InterfaceTree → List Module → Scopes
scopes_of i ms = scopes_by (declarations i ms) i ms

-- what the name stands for in module k
abbrev pub entity_at : Scopes → ℕ → List ℕ → Option Entity
entity_at s k x = option_map (λ (d : Declaration). d.entity) (find_in s.declared s.takes k x)
