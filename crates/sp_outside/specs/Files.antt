-- The files that a library holds, for the contract of a load and for each definition of what a run reads.
use Rattle.std.specs.Prelude.{◌≡◌, ℕ, ◌<◌, List, [], ◌∷◌, Option, Some, None, length, map, if◌then◌else◌, String, Vec, string_bytes}
use Rattle.std.specs.Str.{bytes_eq}

-- files in their order, each with its name and its bytes
abbrev pub Files : Type 0
Files = List (List ℕ × List ℕ)

-- the bytes of the first file of that name
abbrev pub first_file : List ℕ → Files → Option (List ℕ)
first_file name [] = None
first_file name (file ∷ rest) = if bytes_eq file.0 name then Some file.1 else first_file name rest

-- the files that a program holds as names with their bytes
module _ {A B : Type 0} where
  abbrev pub files_of : List (String A × Vec ℕ B) → Files
  files_of files = map (λ file. (string_bytes file.0, file.1.items)) files

-- the first file of that name has more bytes than the limit
abbrev pub IsTooLong : List ℕ → ℕ → Files → Type 0
IsTooLong name limit files = (bytes : List ℕ) × (first_file name files ≡ Some bytes) × (limit < length bytes)
