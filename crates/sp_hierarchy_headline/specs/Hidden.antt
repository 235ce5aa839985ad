-- What ACCEPTED under a mapping and under its lower interface means, for whoever reads it.
use Rattle.std.specs.Prelude.{◌≡◌, ℕ, List, [], Ok}
use Rattle.std.specs.List.{Contains}
use Rattle.sp_outside.specs.Files.{Files}
use Rattle.sp_tree.specs.declared.interface.HierarchyTree.{HierarchyTree}
use Rattle.sp_tree.specs.declared.interface.MappingTree.{MappingTree}
use Rattle.sp_tree.specs.declared.names.Ident.{Ident}
use Rattle.sp_scopes.specs.declared.scopes.Scopes.{Scopes}
use Rattle.sp_scopes.specs.Scopes.{scopes_of}
use Rattle.sp_core.specs.Parts.{Parts}
use Rattle.sp_mapping_rules.specs.Mappings.{mapping_broken, mapping_of}
use Rattle.sp_map_laws.specs.Views.{HidesViews}
use Rattle.sp_sorts.specs.Sorts.{hierarchies, interface_file, mapping_file, mappings}
use Rattle.sp_sorts.specs.Texts.{TreeRead}
use Rattle.sp_system.specs.Interfaces.{IsOnlySpec}
use Rattle.sp_system.specs.System.{SystemRead}
use Rattle.sp_system.specs.declared.system.System.{System}

-- The hierarchy in this file has this row: the upper interface, the lower one, and the mapping.
pub record IsRowOf (file : List ℕ) (files : Files) (row : Ident × Ident × Ident) : Type 0 where
  pub hierarchy : HierarchyTree
  pub read : TreeRead hierarchies file files (Ok hierarchy)
  pub has : Contains hierarchy.rows row

-- A row of the hierarchy in this file has a mapping of this name, and each row that does has the same two interfaces.
pub record HasOneRow (file name : List ℕ) (files : Files) : Type 0 where
  pub row : Ident × Ident × Ident
  pub of : IsRowOf file files row
  pub named : row.2.name ≡ name
  pub only : (other : Ident × Ident × Ident) → IsRowOf file files other → other.2.name ≡ name → (other.0.name ≡ row.0.name) × (other.1.name ≡ row.1.name)

-- The files of this name read as an interface, and its modules and sample; and they stand for one specification.
pub record IsReadAs (name : List ℕ) (files : Files) (system : System) (spec : Parts) : Type 0 where
  pub read : SystemRead (interface_file name) files (Ok system)
  pub named : system.interface.name.name ≡ name
  pub meant : IsOnlySpec system.interface system.modules spec

-- all names of the system
abbrev pub names_of : System → Scopes
names_of x = scopes_of x.interface x.modules

-- The files read as the two interfaces and the mapping of these names, and its text names them. It breaks nothing between the two specifications.
-- What is seen of the upper machine through the mapping that it stands for hides all that is above.
pub record IsHidingMapping (name upper lower : List ℕ) (files : Files) : Type 0 where
  pub above : System
  pub below : System
  pub above_spec : Parts
  pub below_spec : Parts
  pub text : MappingTree
  pub above_read : IsReadAs upper files above above_spec
  pub below_read : IsReadAs lower files below below_spec
  pub read : TreeRead mappings (mapping_file name) files (Ok text)
  pub named : text.name.name ≡ name
  pub from : text.upper.name ≡ upper
  pub to : text.lower.name ≡ lower
  pub unbroken : mapping_broken above_spec below_spec (names_of below) text ≡ []
  pub hides : HidesViews below_spec (mapping_of above_spec below_spec (names_of below) text)
