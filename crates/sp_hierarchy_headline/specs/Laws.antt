-- What lines that begin with ACCEPTED mean in a report of `hierarchy`, by its bytes. The bytes may be those of a report that was cut short: the report
-- is `bytes ++ rest`.
use Rattle.std.specs.Prelude.{ℕ, List, ◌++◌, Ok}
use Rattle.sp_outside.specs.Files.{Files}
use Rattle.sp_tree.specs.declared.names.Ident.{Ident}
use Rattle.sp_frame.specs.declared.refusal.Verdict.{Verdict}
use Rattle.sp_frame.specs.Endings.{printed}
use Rattle.sp_sorts.specs.Sorts.{interface_file}
use Rattle.sp_check_command.specs.Secure.{IsSecureInterface}
use Rattle.sp_headline.specs.Refused.{IsInLine, RefusesInLine}
use Rattle.sp_hierarchy_command.specs.Hierarchy.{HierarchyDone}
use Rattle.sp_hierarchy_headline.specs.Blocks.{AcceptedUnder, interface_heading, mapping_heading}
use Rattle.sp_hierarchy_headline.specs.Hidden.{HasOneRow, IsHidingMapping, IsRowOf}

-- the law: where ACCEPTED stands under the heading of an interface, that interface is secure
abbrev pub HierarchyLinesLaw : Type 0
HierarchyLinesLaw =
    (files : Files) (file bytes rest name : List ℕ) (v : Verdict) → HierarchyDone file files (Ok (printed (bytes ++ rest) v)) → AcceptedUnder (interface_heading name) bytes
    → IsSecureInterface (interface_file name) files

-- the law: where it stands under the heading of a row's mapping, and under that of the row's lower interface, the mapping hides all that is above
abbrev pub MappingLinesLaw : Type 0
MappingLinesLaw =
    (files : Files) (file bytes rest : List ℕ) (row : Ident × Ident × Ident) (v : Verdict) → HierarchyDone file files (Ok (printed (bytes ++ rest) v)) → IsRowOf file files row
    → AcceptedUnder (mapping_heading row.2.name) bytes → AcceptedUnder (interface_heading row.1.name) bytes → IsHidingMapping row.2.name row.0.name row.1.name files

-- the law: a mapping under whose heading ACCEPTED stands is that of a row
abbrev pub MappingRowsLaw : Type 0
MappingRowsLaw =
    (files : Files) (file bytes rest name : List ℕ) (v : Verdict) → HierarchyDone file files (Ok (printed (bytes ++ rest) v)) → AcceptedUnder (mapping_heading name) bytes → HasOneRow file name files

-- the law: where the name of the hierarchy holds no line feed, no name that a refusal tells does
abbrev pub HierarchyRefusesLaw : Type 0
HierarchyRefusesLaw = (files : Files) (file : List ℕ) → IsInLine file → RefusesInLine (HierarchyDone file files)
