-- The interfaces that the rows of a hierarchy name are among those that are read. So no mapping names an unknown one.
use Rattle.std.specs.Prelude.{◌≡◌, ℕ, List, Some, Ok, slice_get}
use Rattle.sp_outside.specs.Files.{Files}
use Rattle.sp_hierarchy.specs.Texts.{HierarchyRead}
use Rattle.sp_hierarchy.specs.declared.texts.HierarchyTexts.{HierarchyTexts}
use Rattle.sp_hierarchy.specs.declared.texts.NamedSystem.{NamedSystem}
use Rattle.sp_hierarchy.specs.declared.texts.RowMapping.{RowMapping}

-- an interface of this name is one of these
abbrev pub IsRead : List NamedSystem → List ℕ → Type 0
IsRead xs name = (k : ℕ) × (x : NamedSystem) × (slice_get xs k ≡ Some x) × (x.name ≡ name)

-- the law: where a hierarchy is read, both interfaces of the row of each mapping are
abbrev pub RowsAreRead : Type 0
RowsAreRead =
    (files : Files) (file : List ℕ) (t : HierarchyTexts) → HierarchyRead file files (Ok t) → (k : ℕ) (r : RowMapping) → slice_get t.mappings k ≡ Some r
    → IsRead t.interfaces r.upper × IsRead t.interfaces r.lower
