-- Which modules of an interface, and which interfaces of a hierarchy, are over the number. For the contracts of their readers.
use Rattle.std.specs.Prelude.{ℕ, List, [], ◌∷◌, ◌++◌, Option, map, if◌then◌else◌}
use Rattle.std.specs.List.{list_any}
use Rattle.std.specs.Str.{bytes_eq}
use Rattle.sp_text.specs.declared.fault.Limit.{Limit}
use Rattle.sp_text.specs.declared.fault.Quantity.TheVariants.{Interfaces, Modules}
use Rattle.sp_text.specs.declared.fault.Span.{Span}
use Rattle.sp_text.specs.declared.limits.TheConstants.{MOST_INTERFACES, MOST_MODULES}
use Rattle.sp_tree.specs.declared.names.Ident.{Ident}
use Rattle.sp_tree.specs.declared.interface.HierarchyTree.{HierarchyTree}
use Rattle.sp_tree.specs.declared.interface.InterfaceTree.{InterfaceTree}
use Rattle.sp_grammar.specs.Texts.{over_number}

abbrev pub span_of_name : Ident → Span
span_of_name x = x.span

-- The limit at the first of the modules over the number. A module that is named twice counts twice.
abbrev pub over_modules : InterfaceTree → Option Limit
over_modules t = over_number MOST_MODULES Modules (map span_of_name t.modules)

-- the interfaces of rows in the order in which they are mentioned: of each row the upper one, then the lower one
abbrev pub mentioned : List (Ident × Ident × Ident) → List Ident
mentioned [] = []
mentioned (row ∷ rows) = row.0 ∷ row.1 ∷ mentioned rows

-- where each name of the list stands first, but for those names that stand before the list already
abbrev pub first_mentions : List (List ℕ) → List Ident → List Span
first_mentions before [] = []
first_mentions before (x ∷ xs) =
    if list_any (λ y. bytes_eq y x.name) before then first_mentions before xs else x.span ∷ first_mentions (before ++ x.name ∷ []) xs

-- The limit at the first mention of the first of the interfaces over the number. Each name counts once.
abbrev pub over_interfaces : HierarchyTree → Option Limit
over_interfaces t = over_number MOST_INTERFACES Interfaces (first_mentions [] (mentioned t.rows))
