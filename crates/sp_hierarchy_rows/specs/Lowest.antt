-- What the calls inside ask of rows: whether an interface is an upper one, and where the rows below it end.
use Rattle.std.specs.Prelude.{ℕ, Bool, true, false, List, [], ◌∷◌, if◌then◌else◌}
use Rattle.std.specs.Str.{bytes_eq}
use Rattle.sp_tree.specs.declared.names.Ident.{Ident}
use Rattle.sp_hierarchy_rows.specs.Rows.{IsUpper}

-- whether the interface is the upper one of a row
abbrev pub is_upper : List (Ident × Ident × Ident) → List ℕ → Bool
is_upper [] x = false
is_upper (row ∷ rows) x = if bytes_eq row.0.name x then true else is_upper rows x

-- no interface is the upper one of two rows
abbrev pub AreDifferent : List (Ident × Ident × Ident) → Type 0
AreDifferent [] = Unit {0}
AreDifferent (row ∷ rows) = (¬ IsUpper rows row.0.name) × AreDifferent rows

-- the interface to which the rows below x lead last: behind the other rows, the first one leads on from its upper interface
abbrev pub lowest : List (Ident × Ident × Ident) → List ℕ → List ℕ
lowest [] x = x
lowest (row ∷ rows) x = if bytes_eq (lowest rows x) row.0.name then lowest rows row.1.name else lowest rows x
