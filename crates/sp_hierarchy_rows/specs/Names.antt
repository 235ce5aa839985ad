-- The interfaces of a hierarchy, each once, in the order in which its rows mention them: of each row the upper one, then the lower one. For the
-- order in which they are read, judged and worked on.
use Rattle.std.specs.Prelude.{ℕ, List, [], ◌∷◌, ◌++◌, if◌then◌else◌}
use Rattle.std.specs.List.{list_any}
use Rattle.std.specs.Str.{bytes_eq}
use Rattle.sp_tree.specs.declared.names.Ident.{Ident}

-- the names, and one more unless it is among them
abbrev pub with_name : List (List ℕ) → List ℕ → List (List ℕ)
with_name names x = if list_any (λ y. bytes_eq y x) names then names else names ++ x ∷ []

-- and those of each row
abbrev pub with_rows : List (List ℕ) → List (Ident × Ident × Ident) → List (List ℕ)
with_rows names [] = names
with_rows names (row ∷ rows) = with_rows (with_name (with_name names row.0.name) row.1.name) rows

-- the names of the interfaces of these rows
abbrev pub interface_names : List (Ident × Ident × Ident) → List (List ℕ)
interface_names rows = with_rows [] rows
