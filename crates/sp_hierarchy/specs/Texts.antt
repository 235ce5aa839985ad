-- The texts of a hierarchy are read: the hierarchy, then its interfaces in order of first mention, each with its modules and its sample, then the
-- mappings in the order of the rows. For the command that works on a hierarchy.
use Rattle.std.specs.Prelude.{ℕ, List}
use Rattle.std.specs.Str.{IsUtf8}
use Rattle.sp_outside.specs.Files.{Files}
use Rattle.sp_tree.specs.declared.names.Ident.{Ident}
use Rattle.sp_frame.specs.Steps.{Each, Gives, Step, Then}
use Rattle.sp_hierarchy_rows.specs.Names.{interface_names}
use Rattle.sp_sorts.specs.Sorts.{hierarchies, interface_file, mapping_file, mappings}
use Rattle.sp_sorts.specs.Texts.{TreeRead}
use Rattle.sp_system.specs.System.{SystemRead}
use Rattle.sp_hierarchy.specs.declared.texts.HierarchyTexts.{HierarchyTexts}
use Rattle.sp_hierarchy.specs.declared.texts.NamedSystem.{NamedSystem}
use Rattle.sp_hierarchy.specs.declared.texts.RowMapping.{RowMapping}

-- the texts of the interface of this name are read
abbrev pub NamedRead : List ℕ → Files → Step NamedSystem
NamedRead name files = Then (SystemRead (interface_file name) files) (λ x. Gives (record { name = name; system = x }))

-- its name is UTF-8, as that of a file
abbrev pub IsTextName : NamedSystem → Type 0
IsTextName x = IsUtf8 x.name

-- and those of the interfaces of these names, in their order
unfoldable pub SystemsRead : List (List ℕ) → Files → Step (List NamedSystem)
SystemsRead names files = Each (λ name. NamedRead name files) names

-- the text of the mapping of a row is read
abbrev pub MappingRead : Ident × Ident × Ident → Files → Step RowMapping
MappingRead row files =
    Then (TreeRead mappings (mapping_file row.2.name) files) (λ t. Gives (record { upper = row.0.name; lower = row.1.name; name = row.2.name; tree = t }))

-- and those of these rows, in their order
unfoldable pub MappingsRead : List (Ident × Ident × Ident) → Files → Step (List RowMapping)
MappingsRead rows files = Each (λ row. MappingRead row files) rows

-- the texts of the hierarchy of this file are read
abbrev pub HierarchyRead : List ℕ → Files → Step HierarchyTexts
HierarchyRead file files =
    Then (TreeRead hierarchies file files) (λ h.
    Then (SystemsRead (interface_names h.rows) files) (λ xs.
    Then (MappingsRead h.rows files) (λ ms.
    Gives (record { hierarchy = h; interfaces = xs; mappings = ms }))))
